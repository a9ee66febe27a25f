-- Asks that the desk here or a copy answers keep the account of their node.
use Rattle.std.proofs.Common.{◌≡◌, ◌≢◌, inl, inr, List, Bool, false, sym, ap, subst, ◌∙◌, ◌⊎◌, if◌then◌else◌, Contains, IsTrue, IsFalse, refl}
use Rattle.std.proofs.lemmas.Bool.{both_ways, false_from_ne_true}
use Rattle.lt_modes.specs.declared.mode.Mode.{Mode}
use Rattle.lt_modes.specs.declared.ask.Ask.{Ask}
use Rattle.lt_modes.specs.declared.parts.Row.{Row}
use Rattle.lt_modes.specs.Modes.{Modes, conflicts, has, union, one, with_mode, other_modes, held_modes}
use Rattle.lt_modes.specs.State.{Tell, without, modes_of_asks, record_of, still_owed, modes_of_owed}
use Rattle.lt_modes.specs.Serving.{answered}
use Rattle.lt_modes.specs.Sound.{ChargeKept}
use Rattle.lt_modes.proofs.ModeAlgebra.{conflicts-sym, union_bars_both}
use Rattle.lt_law_accounts.specs.Account.{Account, AccountKept, ClocksKept, AsksKnown, CopiesOwed, Covers, IsBelow, own_of, owed_and_waiting, now_modes, left_after, IsFreshTell}
use Rattle.lt_law_accounts.specs.AccountSteps.{IsLoss, MayAnswer, answering, MayDeliver, delivering, MayVoid, voiding, voiding_copy}
use Rattle.lt_law_accounts.specs.AccountPlay.{AnswersKeep, Delivers, Voids, VoidsCopies}
use Rattle.lt_law_accounts.proofs.AccountFacts.{same_by_stamp, still_owed-which, still_owed-at, bars_not, below_by_members, copy_is_waiting, held_below_charge, has-union, has-left, has-right, has-kept, has-added, has-with_mode, mode_which, mode_at}
use Rattle.lt_law_accounts.proofs.AccountGrants.{charge_in_move, below_one_more, clear_one_more, counts_less, counts_one_more, clear_fewer}
use Rattle.lt_law_accounts.proofs.Rows.{AreOneMore, held-at, held_one_more, others-at, rows_granted}
use Rattle.lt_law_accounts.proofs.Asks.{without_only, without_kept, without_gone, without_apart}

-- the account once the ask is answered, with this charge and these copies
abbrev answered_with : Ask → Modes → List Ask → Account → Account
answered_with ask charge copies a = record a {
  held = answered a.held ask;
  pending = without a.pending ask.stamp;
  charge = charge;
  copies = copies;
}

more_rows : (a : Account) (ask : Ask) → AreOneMore ask.client ask.mode a.held (answered a.held ask)
more_rows a ask = rows_granted a.held ask.client ask.mode ask.gives_up

clocks_answered : (a : Account) (ask : Ask) → AccountKept a → ClocksKept a.moving a.clock (without a.pending ask.stamp) a.entry a.tells
clocks_answered a ask h = record {
  asks = λ own c. h.clocks.asks own (without_only a.pending ask.stamp own c);
  apart = without_apart a.pending ask.stamp h.clocks.apart;
  tells_made = h.clocks.tells_made;
  tells_apart = h.clocks.tells_apart;
  told = h.clocks.told;
  owed = h.clocks.owed;
}

known_answered : (a : Account) (ask : Ask) → AccountKept a → AsksKnown (without a.pending ask.stamp) a.entry a.tells
known_answered a ask h = record {
  in_entry = λ own c. h.known.in_entry own (without_only a.pending ask.stamp own c);
  in_tells = λ own tell c. h.known.in_tells own tell (without_only a.pending ask.stamp own c);
  lists = h.known.lists;
  entry_list = h.known.entry_list;
}

-- the ask is unanswered, and it has no copy among these
owed_answered : (a : Account) (ask : Ask) (copies : List Ask) → AccountKept a → Contains a.pending ask
    → IsLoss ask a.copies copies → (Contains copies ask → ⊥) → CopiesOwed (without a.pending ask.stamp) a.entry copies
owed_answered a ask copies h here loss none = record {
  waits = λ own c. without_kept a.pending ask.stamp own (h.owed.waits own (loss.only own c)) (differs own c);
  owed = λ own c. h.owed.owed own (loss.only own c);
  on_way = λ copy own owes waits same. on_way_still own (without_only a.pending ask.stamp own waits)
      waits (h.owed.on_way copy own owes (without_only a.pending ask.stamp own waits) same);
  open_still = h.owed.open_still;
}
  where
    differs : (own : Ask) → Contains copies own → own.stamp ≢ ask.stamp
    differs own c e =
        none (subst (Contains copies) (same_by_stamp a.pending own ask h.clocks.apart (h.owed.waits own (loss.only own c)) here e) c)

    on_way_still : {P : Type 0} (own : Ask) → Contains a.pending own → Contains (without a.pending ask.stamp) own → Contains a.copies own × P
        → Contains copies own × P
    on_way_still own waits still found = elim (loss.kept own found.0) [
      | inl kept ↦ (kept, found.1)
      | inr same ↦ absurd (without_gone a.pending ask h.clocks.apart here (subst (Contains (without a.pending ask.stamp)) same still))
    ]

-- what is owed and unanswered afterwards was so before
waiting_before : (a : Account) (ask : Ask) (mode : Mode)
    → IsTrue (has mode (modes_of_owed (still_owed (without a.pending ask.stamp) a.entry.owed))) → IsTrue (has mode (owed_and_waiting a))
waiting_before a ask mode h =
    let w = still_owed-which (without a.pending ask.stamp) a.entry.owed mode h in
    subst (λ (m : Mode). IsTrue (has m (owed_and_waiting a))) w.is_mode
    (still_owed-at a.pending a.entry.owed w.copy w.ask w.owes (without_only a.pending ask.stamp w.ask w.waits) w.same)

-- the own part has one mode more at most
own_one_more : (a : Account) (ask : Ask) (charge : Modes) (copies : List Ask) (mode : Mode)
    → IsTrue (has mode (own_of (answered_with ask charge copies a))) → IsTrue (has mode (own_of a)) ⊎ (ask.mode ≡ mode)
own_one_more a ask charge copies mode h =
    elim (has-union mode (held_modes (answered a.held ask)) (modes_of_owed (still_owed (without a.pending ask.stamp) a.entry.owed)) h) [
      | inl lock ↦ elim (has-with_mode mode ask.mode (held_modes a.held) (held_one_more ask.client ask.mode a.held (answered a.held ask) (more_rows a ask) mode lock)) [
        | inl old ↦ inl (has-left mode (held_modes a.held) (owed_and_waiting a) old)
        | inr same ↦ inr same
      ]
      | inr owed ↦ inl (has-right mode (held_modes a.held) (owed_and_waiting a) (waiting_before a ask mode owed))
    ]

-- where the desk is here, the ask was tested against rows and copies
answers_account : (a : Account) (others : Modes) (ask : Ask) → AccountKept a → MayAnswer others ask a → AccountKept (answering ask a)
answers_account a others ask h may = record {
  clocks = clocks_answered a ask h;
  known = known_answered a ask h;
  owed = owed_answered a ask a.copies h may.waits (record { only = λ x c. c; kept = λ x c. inl c }) may.alone;
  charge = λ away. absurd (both_ways a.here away may.here);
  cover = λ away. absurd (both_ways a.here away may.here);
  clear = clear_one_more a (answering ask a) ask.client ask.mode h.clear (more_rows a ask) (λ x c. c) rows_free copies_free;
}
  where
    tested : Modes
    tested = union (other_modes a.held ask.client) (owed_and_waiting a)

    rows_free : (row : Row) → Contains a.held row → row.client ≢ ask.client → IsFalse (conflicts ask.mode row.mode)
    rows_free row here differ = false_from_ne_true (conflicts ask.mode row.mode) (λ e.
        bars_not tested ask.mode may.local
        (row.mode, e, has-left row.mode (other_modes a.held ask.client) (owed_and_waiting a) (others-at a.held ask.client row here differ)))

    copies_free : (x : Ask) → Contains a.copies x → IsFalse (conflicts x.mode ask.mode)
    copies_free x c = false_from_ne_true (conflicts x.mode ask.mode) (λ e.
        bars_not tested ask.mode may.local
        (x.mode, conflicts-sym ask.mode x.mode ∙ e, has-right x.mode (other_modes a.held ask.client) (owed_and_waiting a) (copy_is_waiting a h.owed x c)))

-- the desk here answers it
pub answers_kept : AnswersKeep
answers_kept a others ask h may = (
  answers_account a others ask h may,
  counts_one_more others ask.mode a.here (own_of a) (record_of a.entry) (own_of (answering ask a))
      (λ here. (below_by_members (own_of (answering ask a)) (with_mode (own_of a) ask.mode) own, bars_not others ask.mode may.free)),
)
  where
    own : (m : Mode) → IsTrue (has m (own_of (answering ask a))) → IsTrue (has m (with_mode (own_of a) ask.mode))
    own m member = elim (own_one_more a ask a.charge a.copies m member) [
      | inl old ↦ has-kept m ask.mode (own_of a) old
      | inr same ↦ subst (λ (x : Mode). IsTrue (has x (with_mode (own_of a) ask.mode))) same (has-added ask.mode (own_of a))
    ]

-- what is charged, with what copies bring, stays when a copy comes
now_only : (a : Account) (ask : Ask) (copies : List Ask) → Contains a.copies ask → IsLoss ask a.copies copies
    → IsBelow (union (with_mode a.charge ask.mode) (modes_of_asks copies)) (now_modes a.charge a.copies)
now_only a ask copies came loss = below_by_members (union (with_mode a.charge ask.mode) (modes_of_asks copies)) (now_modes a.charge a.copies) (λ m member.
    elim (has-union m (with_mode a.charge ask.mode) (modes_of_asks copies) member) [
      | inl charged ↦ elim (has-with_mode m ask.mode a.charge charged) [
        | inl old ↦ has-left m a.charge (modes_of_asks a.copies) old
        | inr same ↦ brought m ask came same
      ]
      | inr coming ↦ let found = mode_which (λ (x : Ask). x.mode) copies m coming in brought m found.0 (loss.only found.0 found.1) found.2
    ])
  where
    brought : (m : Mode) (x : Ask) → Contains a.copies x → x.mode ≡ m → IsTrue (has m (now_modes a.charge a.copies))
    brought m x c e =
        has-right m a.charge (modes_of_asks a.copies)
        (subst (λ (n : Mode). IsTrue (has n (modes_of_asks a.copies))) e (mode_at (λ (y : Ask). y.mode) a.copies x c))

-- and nothing of it is lost
now_kept : (a : Account) (ask : Ask) (copies : List Ask) → IsLoss ask a.copies copies
    → IsBelow (now_modes a.charge a.copies) (union (with_mode a.charge ask.mode) (modes_of_asks copies))
now_kept a ask copies loss = below_by_members (now_modes a.charge a.copies) (union (with_mode a.charge ask.mode) (modes_of_asks copies)) (λ m member.
    elim (has-union m a.charge (modes_of_asks a.copies) member) [
      | inl charged ↦ has-left m (with_mode a.charge ask.mode) (modes_of_asks copies) (has-kept m ask.mode a.charge charged)
      | inr coming ↦ let found = mode_which (λ (x : Ask). x.mode) a.copies m coming in by_copy m found.0 (loss.kept found.0 found.1) found.2
    ])
  where
    by_copy : (m : Mode) (x : Ask) → Contains copies x ⊎ (x ≡ ask) → x.mode ≡ m
        → IsTrue (has m (union (with_mode a.charge ask.mode) (modes_of_asks copies)))
    by_copy m x (inl left) e =
        has-right m (with_mode a.charge ask.mode) (modes_of_asks copies)
        (subst (λ (n : Mode). IsTrue (has n (modes_of_asks copies))) e (mode_at (λ (y : Ask). y.mode) copies x left))
    by_copy m x (inr same) e =
        has-left m (with_mode a.charge ask.mode) (modes_of_asks copies)
        (subst (λ (n : Mode). IsTrue (has n (with_mode a.charge ask.mode))) (ap (λ (y : Ask). y.mode) (sym same) ∙ e) (has-added ask.mode a.charge))

-- so the cover stays
cover_delivered : (a : Account) (ask : Ask) (copies : List Ask) → Covers a.charge a.entry a.tells a.copies → Contains a.copies ask → IsLoss ask a.copies copies
    → Covers (with_mode a.charge ask.mode) a.entry a.tells copies
cover_delivered a ask copies h came loss = record {
  record_bound = λ m bar. h.record_bound m (only m bar);
  left_bound = λ tell news m bar. h.left_bound tell news m (only m bar);
  record_shrinks = h.record_shrinks;
  left_shrinks = h.left_shrinks;
  exact = still h.exact;
}
  where
    only : IsBelow (union (with_mode a.charge ask.mode) (modes_of_asks copies)) (now_modes a.charge a.copies)
    only = now_only a ask copies came loss

    still : IsBelow (record_of a.entry) (now_modes a.charge a.copies) ⊎ ((tell : Tell) × IsFreshTell a.entry a.tells tell × IsBelow (left_after a.entry tell) (now_modes a.charge a.copies))
        → IsBelow (record_of a.entry) (union (with_mode a.charge ask.mode) (modes_of_asks copies))
        ⊎ ((tell : Tell) × IsFreshTell a.entry a.tells tell × IsBelow (left_after a.entry tell) (union (with_mode a.charge ask.mode) (modes_of_asks copies)))
    still (inl below) = inl (λ m bar. now_kept a ask copies loss m (below m bar))
    still (inr found) = inr (found.0, found.1, λ m bar. now_kept a ask copies loss m (found.2 m bar))

-- the charge of the node once the copy has come, by where the desk is
abbrev charge_of : Account → Ask → Bool → Modes
charge_of a ask here = if here then a.charge else with_mode a.charge ask.mode

-- a copy conflicts neither with what is held nor with the other copies
delivers_account : (a : Account) (ask : Ask) (copies : List Ask) → AccountKept a → MayDeliver ask copies a → AccountKept (delivering ask copies a)
delivers_account a ask copies h may = record {
  clocks = clocks_answered a ask h;
  known = known_answered a ask h;
  owed = owed_answered a ask copies h (h.owed.waits ask may.came) may.left may.once;
  charge = λ away. subst (λ (t : Bool). ChargeKept a.moving (held_modes (answered a.held ask)) (charge_of a ask t)) (sym away)
      (charge_in_move a.moving (held_modes (answered a.held ask)) (with_mode a.charge ask.mode) may.moves (below_charge away));
  cover = λ away. subst (λ (t : Bool). Covers (charge_of a ask t) a.entry a.tells copies) (sym away)
      (cover_delivered a ask copies (h.cover away) may.came may.left);
  clear = clear_one_more a (delivering ask copies a) ask.client ask.mode h.clear (more_rows a ask) may.left.only rows_free copies_free;
}
  where
    below_charge : a.here ≡ false → IsBelow (held_modes (answered a.held ask)) (with_mode a.charge ask.mode)
    below_charge away =
        below_one_more ask.client ask.mode a.held (answered a.held ask) (with_mode a.charge ask.mode) (more_rows a ask)
        (λ m bar. (union_bars_both conflicts a.charge (one ask.mode) m).1 (inl (held_below_charge a.moving (held_modes a.held) a.charge (h.charge away) m bar)))
        (λ m e. (ask.mode, e, has-added ask.mode a.charge))

    rows_free : (row : Row) → Contains a.held row → row.client ≢ ask.client → IsFalse (conflicts ask.mode row.mode)
    rows_free row here differ = false_from_ne_true (conflicts ask.mode row.mode) (λ e.
        bars_not (held_modes a.held) ask.mode (h.clear.copy_and_held ask may.came) (row.mode, e, held-at a.held row here))

    copies_free : (x : Ask) → Contains copies x → IsFalse (conflicts x.mode ask.mode)
    copies_free x c = h.clear.copies_clear x ask (may.left.only x c) may.came

-- a copy answers it
pub delivers_kept : Delivers
delivers_kept a ask copies h may = (
  delivers_account a ask copies h may,
  counts_less a.here (own_of a) (record_of a.entry) (own_of (delivering ask copies a)) (record_of a.entry)
      (λ here. below_by_members (own_of (delivering ask copies a)) (own_of a) own) (λ away m bar. bar),
)
  where
    own : (m : Mode) → IsTrue (has m (own_of (delivering ask copies a))) → IsTrue (has m (own_of a))
    own m member = elim (own_one_more a ask (charge_of a ask a.here) copies m member) [
      | inl old ↦ old
      | inr same ↦ subst (λ (x : Mode). IsTrue (has x (own_of a))) same
          (has-right ask.mode (held_modes a.held) (owed_and_waiting a) (copy_is_waiting a h.owed ask may.came))
    ]

-- the own part has no mode more where no lock is gained
own_no_more : (a : Account) (ask : Ask) (charge : Modes) (copies : List Ask) (mode : Mode)
    → IsTrue (has mode (own_of (record a { pending = without a.pending ask.stamp; charge = charge; copies = copies }))) → IsTrue (has mode (own_of a))
own_no_more a ask charge copies mode h =
    elim (has-union mode (held_modes a.held) (modes_of_owed (still_owed (without a.pending ask.stamp) a.entry.owed)) h) [
      | inl lock ↦ has-left mode (held_modes a.held) (owed_and_waiting a) lock
      | inr owed ↦ has-right mode (held_modes a.held) (owed_and_waiting a) (waiting_before a ask mode owed)
    ]

-- an ask that was given up leaves, with nothing in its place
pub voids_kept : Voids
voids_kept a ask h may = (
  record {
    clocks = clocks_answered a ask h;
    known = known_answered a ask h;
    owed = owed_answered a ask a.copies h may.waits (record { only = λ x c. c; kept = λ x c. inl c }) may.alone;
    charge = h.charge;
    cover = h.cover;
    clear = h.clear;
  },
  counts_less a.here (own_of a) (record_of a.entry) (own_of (voiding ask a)) (record_of a.entry)
      (λ here. below_by_members (own_of (voiding ask a)) (own_of a) (own_no_more a ask a.charge a.copies)) (λ away m bar. bar),
)

-- so it does by a copy, which is charged all the same
pub voids_copies_kept : VoidsCopies
voids_copies_kept a ask copies h may = (
  record {
    clocks = clocks_answered a ask h;
    known = known_answered a ask h;
    owed = owed_answered a ask copies h (h.owed.waits ask may.came) may.left may.once;
    charge = λ away. subst (λ (t : Bool). ChargeKept a.moving (held_modes a.held) (charge_of a ask t)) (sym away)
        (charge_in_move a.moving (held_modes a.held) (with_mode a.charge ask.mode) may.moves (below_charge away));
    cover = λ away. subst (λ (t : Bool). Covers (charge_of a ask t) a.entry a.tells copies) (sym away)
        (cover_delivered a ask copies (h.cover away) may.came may.left);
    clear = clear_fewer a (voiding_copy ask copies a) h.clear (λ row c. record { old = row; found = c; client = refl; mode = refl }) may.left.only;
  },
  counts_less a.here (own_of a) (record_of a.entry) (own_of (voiding_copy ask copies a)) (record_of a.entry)
      (λ here. below_by_members (own_of (voiding_copy ask copies a)) (own_of a) (own_no_more a ask (charge_of a ask a.here) copies)) (λ away m bar. bar),
)
  where
    below_charge : a.here ≡ false → IsBelow (held_modes a.held) (with_mode a.charge ask.mode)
    below_charge away m bar =
        (union_bars_both conflicts a.charge (one ask.mode) m).1 (inl (held_below_charge a.moving (held_modes a.held) a.charge (h.charge away) m bar))
