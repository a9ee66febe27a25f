-- What one lock more or less at a node does to the parts of its account.
use Rattle.std.proofs.Common.{◌≡◌, ◌≢◌, ℕ, inl, inr, List, Bool, true, false, refl, sym, ap, subst, ◌∙◌, ◌⊎◌, if◌then◌else◌, Contains, IsTrue, IsFalse}
use Rattle.std.proofs.lemmas.Bool.{both_ways, false_from_ne_true}
use Rattle.lt_modes.specs.declared.mode.Mode.{Mode}
use Rattle.lt_modes.specs.declared.ask.Ask.{Ask}
use Rattle.lt_modes.specs.declared.parts.Row.{Row}
use Rattle.lt_modes.specs.Modes.{Modes, conflicts, with_mode, held_modes, has, union, bars, covers, own_modes, other_modes, add_lock, take_lock, without_client}
use Rattle.lt_modes.specs.ModeLaws.{CoversBy}
use Rattle.lt_modes.specs.Sound.{ChargeKept}
use Rattle.lt_modes.proofs.ModeAlgebra.{conflicts-sym, covers_by_table, union_bars_both, below_in_turn, below_with_more, covered_is_clear}
use Rattle.lt_modes.specs.State.{record_of}
use Rattle.lt_modes.specs.Serving.{give_up}
use Rattle.lt_law_accounts.specs.Account.{Account, NodeClear, Bars, IsBelow, AccountKept, AreClear, counted, own_of, owed_and_waiting}
use Rattle.lt_law_accounts.proofs.AccountFacts.{bars_not, not_bars, has-with_mode, below_by_bars, below_by_members, copy_is_waiting, held_below_charge, has-union, has-left, has-right, has-kept, has-added}
use Rattle.lt_law_accounts.proofs.Rows.{Was, AreFewer, AreOneMore, held_fewer, held_one_more, own-which, own_is_held, others-at, rows_granted, rows_taken, rows_dropped}
use Rattle.lt_law_accounts.specs.AccountSteps.{MayGrant, MayJoin}
use Rattle.lt_law_accounts.specs.AccountPlay.{Grants, Unlocks, Drops, CountsLess}

-- conflicts of equal modes
conflict_as : (p q x y : Mode) → p ≡ x → q ≡ y → IsFalse (conflicts p q) → IsFalse (conflicts x y)
conflict_as p q x y e f h = ap (λ (m : Mode). conflicts m y) (sym e) ∙ ap (λ (m : Mode). conflicts p m) (sym f) ∙ h

-- in the middle of a move the charge only has to bar what is held
pub charge_in_move : (moving : Bool) (held charge : Modes) → moving ≡ true → IsBelow held charge → ChargeKept moving held charge
charge_in_move moving held charge moves below = subst (λ (m : Bool). ChargeKept m held charge) (sym moves) below

-- a set with one mode more bars what it barred, and what conflicts with the mode
pub bars-with_mode : (modes : Modes) (more mode : Mode) → Bars (with_mode modes more) mode → Bars modes mode ⊎ IsTrue (conflicts mode more)
bars-with_mode modes more mode bar = elim (has-with_mode bar.0 more modes bar.2) [
  | inl old ↦ inl (bar.0, bar.1, old)
  | inr same ↦ inr (ap (λ (m : Mode). conflicts mode m) same ∙ bar.1)
]

-- with one mode that a set covers, held modes stay below it
pub below_one_more : (client : ℕ) (more : Mode) (former later : List Row) (bound : Modes) → AreOneMore client more former later
    → IsBelow (held_modes former) bound → CoversBy conflicts bound more → IsBelow (held_modes later) bound
below_one_more client more former later bound one below covered mode bar =
    elim (bars-with_mode (held_modes former) more mode (bar.0, bar.1, held_one_more client more former later one bar.0 bar.2)) [
      | inl old ↦ below mode old
      | inr conflict ↦ covered mode conflict
    ]

pub below_fewer : (former later : List Row) → AreFewer former later → IsBelow (held_modes later) (held_modes former)
below_fewer former later fewer mode bar = (bar.0, bar.1, held_fewer former later fewer bar.0 bar.2)

-- rows and copies are clear with fewer rows
pub clear_fewer : (a b : Account) → NodeClear a.held a.copies → AreFewer a.held b.held → ((x : Ask) → Contains b.copies x → Contains a.copies x) → NodeClear b.held b.copies
clear_fewer a b h fewer only = record {
  copies_clear = λ x y hx hy. h.copies_clear x y (only x hx) (only y hy);
  copy_and_held = λ ask c. not_bars (held_modes b.held) ask.mode (λ bar.
      bars_not (held_modes a.held) ask.mode (h.copy_and_held ask (only ask c)) (below_fewer a.held b.held fewer ask.mode bar));
  clients = λ x y hx hy differ. both x y (fewer x hx) (fewer y hy) differ;
}
  where
    both : (x y : Row) → Was a.held x → Was a.held y → x.client ≢ y.client → IsFalse (conflicts x.mode y.mode)
    both x y p q differ =
        conflict_as p.old.mode q.old.mode x.mode y.mode p.mode q.mode
        (h.clients p.old q.old p.found q.found (λ e. differ (sym p.client ∙ e ∙ q.client)))

-- and with one row more, if neither another client's row nor a copy conflicts with it
pub clear_one_more : (a b : Account) (client : ℕ) (mode : Mode) → NodeClear a.held a.copies → AreOneMore client mode a.held b.held
    → ((x : Ask) → Contains b.copies x → Contains a.copies x)
    → ((row : Row) → Contains a.held row → row.client ≢ client → IsFalse (conflicts mode row.mode))
    → ((x : Ask) → Contains b.copies x → IsFalse (conflicts x.mode mode)) → NodeClear b.held b.copies
clear_one_more a b client mode h more only rows_free copies_free = record {
  copies_clear = λ x y hx hy. h.copies_clear x y (only x hx) (only y hy);
  copy_and_held = λ ask c. not_bars (held_modes b.held) ask.mode (λ bar. barred ask c
      (bars-with_mode (held_modes a.held) mode ask.mode (bar.0, bar.1, held_one_more client mode a.held b.held more bar.0 bar.2)));
  clients = λ x y hx hy differ. both x y (more x hx) (more y hy) differ;
}
  where
    barred : (ask : Ask) → Contains b.copies ask → Bars (held_modes a.held) ask.mode ⊎ IsTrue (conflicts ask.mode mode) → ⊥
    barred ask c (inl old) = bars_not (held_modes a.held) ask.mode (h.copy_and_held ask (only ask c)) old
    barred ask c (inr new) = both_ways (conflicts ask.mode mode) (copies_free ask c) new

    old_and_new : (old new : Row) → Was a.held old → (client ≡ new.client) × (mode ≡ new.mode) → old.client ≢ new.client
        → IsFalse (conflicts new.mode old.mode)
    old_and_new old new p q differ =
        conflict_as mode p.old.mode new.mode old.mode q.1 p.mode
        (rows_free p.old p.found (λ e. differ (sym p.client ∙ e ∙ q.0)))

    both : (x y : Row) → Was a.held x ⊎ ((client ≡ x.client) × (mode ≡ x.mode)) → Was a.held y ⊎ ((client ≡ y.client) × (mode ≡ y.mode))
        → x.client ≢ y.client → IsFalse (conflicts x.mode y.mode)
    both x y (inl p) (inl q) differ =
        conflict_as p.old.mode q.old.mode x.mode y.mode p.mode q.mode
        (h.clients p.old q.old p.found q.found (λ e. differ (sym p.client ∙ e ∙ q.client)))
    both x y (inl p) (inr q) differ = conflicts-sym x.mode y.mode ∙ old_and_new x y p q differ
    both x y (inr p) (inl q) differ = old_and_new y x q p (λ e. differ (sym e))
    both x y (inr p) (inr q) differ = absurd (differ (sym p.0 ∙ q.0))

-- what counts, by where the desk is
pub counts_less : (here : Bool) (own record_now own_after record_after : Modes) → (here ≡ true → IsBelow own_after own)
    → (here ≡ false → IsBelow record_after record_now)
    → IsBelow (if here then own_after else record_after) (if here then own else record_now)
counts_less true own record_now own_after record_after at_desk away = at_desk refl
counts_less false own record_now own_after record_after at_desk away = away refl

pub counts_one_more : (others : Modes) (mode : Mode) (here : Bool) (own record_now own_after : Modes)
    → (here ≡ true → IsBelow own_after (with_mode own mode) × (Bars others mode → ⊥))
    → IsBelow (if here then own_after else record_now) (if here then own else record_now)
    ⊎ (IsBelow (if here then own_after else record_now) (with_mode (if here then own else record_now) mode) × (Bars others mode → ⊥))
counts_one_more others mode true own record_now own_after at_desk = inr (at_desk refl)
counts_one_more others mode false own record_now own_after at_desk = inl (λ m bar. bar)

-- Locks that clients get at once or give up keep the account of their node.

-- the account with other rows
with_rows : (a : Account) (held : List Row) → AccountKept a → (a.here ≡ false → ChargeKept a.moving (held_modes held) a.charge)
    → NodeClear held a.copies → AccountKept (record a { held = held })
with_rows a held h charge clear =
    record { clocks = h.clocks; known = h.known; owed = h.owed; charge = charge; cover = h.cover; clear = clear }

-- the mode fits with the other clients' rows, the copies, the charge and the other nodes
record Fits (others : Modes) (client : ℕ) (mode : Mode) (a : Account) : Type 0 where
  rows : (row : Row) → Contains a.held row → row.client ≢ client → IsFalse (conflicts mode row.mode)
  copies : (ask : Ask) → Contains a.copies ask → IsFalse (conflicts ask.mode mode)
  charge : a.here ≡ false → CoversBy conflicts a.charge mode
  free : a.here ≡ true → Bars others mode → ⊥

-- where the own modes cover it
fits_if_covered : (others : Modes) (client : ℕ) (mode : Mode) (a : Account) → AccountKept a → AreClear (counted a) others
    → IsTrue (covers (own_modes a.held client) mode) → Fits others client mode a
fits_if_covered others client mode a h clear covered = record {
  rows = λ row here differ. false_from_ne_true (conflicts mode row.mode) (λ e.
      by_own row here differ (covers_own row.mode (conflicts-sym row.mode mode ∙ e)));
  copies = λ ask c. false_from_ne_true (conflicts ask.mode mode) (λ e.
      bars_not (held_modes a.held) ask.mode (h.clear.copy_and_held ask c) (covers_held ask.mode e));
  charge = λ away other e. held_below_charge a.moving (held_modes a.held) a.charge (h.charge away) other (covers_held other e);
  free = λ here. covered_is_clear conflicts conflicts-sym (held_modes a.held) others mode covers_held
      (λ m member. clear m (subst (λ (t : Bool). IsTrue (has m (if t then own_of a else record_of a.entry))) (sym here)
      (has-left m (held_modes a.held) (owed_and_waiting a) member)));
}
  where
    covers_own : CoversBy conflicts (own_modes a.held client) mode
    covers_own = covers_by_table (own_modes a.held client) mode covered

    covers_held : CoversBy conflicts (held_modes a.held) mode
    covers_held other e = let bar = covers_own other e in (bar.0, bar.1, own_is_held a.held client bar.0 bar.2)

    by_own : (row : Row) → Contains a.held row → row.client ≢ client → Bars (own_modes a.held client) row.mode → ⊥
    by_own row here differ bar =
        let own = own-which a.held client bar.0 bar.2 in
        both_ways (conflicts row.mode bar.0)
        (ap (λ (m : Mode). conflicts row.mode m) (sym own.3) ∙ h.clear.clients row own.0 here own.1 (λ e. differ (e ∙ own.2)))
        bar.1

-- where it may join
fits_if_joins : (others : Modes) (client : ℕ) (mode : Mode) (a : Account) → AccountKept a
    → IsFalse (has mode (bars (other_modes a.held client))) → MayJoin others mode a a.here → Fits others client mode a
fits_if_joins others client mode a h apart joins = record {
  rows = λ row here differ. false_from_ne_true (conflicts mode row.mode) (λ e.
      bars_not (other_modes a.held client) mode apart (row.mode, e, others-at a.held client row here differ));
  copies = λ ask c. false_from_ne_true (conflicts ask.mode mode) (λ e. by_desk a.here joins ask c e);
  charge = λ away. covers_by_table a.charge mode (subst (MayJoin others mode a) away joins).1;
  free = λ here bar.
      bars_not (union others (owed_and_waiting a)) mode (subst (MayJoin others mode a) here joins)
      ((union_bars_both conflicts others (owed_and_waiting a) mode).1 (inl bar));
}
  where
    by_desk : (here : Bool) → MayJoin others mode a here → (ask : Ask) → Contains a.copies ask → IsTrue (conflicts ask.mode mode) → ⊥
    by_desk false join ask c e =
        bars_not (held_modes a.held) ask.mode (h.clear.copy_and_held ask c)
        (below_by_bars a.charge (held_modes a.held) (sym join.0) ask.mode (covers_by_table a.charge mode join.1 ask.mode e))
    by_desk true join ask c e =
        bars_not (union others (owed_and_waiting a)) mode join
        (ask.mode, conflicts-sym mode ask.mode ∙ e, has-right ask.mode others (owed_and_waiting a) (copy_is_waiting a h.owed ask c))

fits : (others : Modes) (client : ℕ) (mode : Mode) (a : Account) → AccountKept a → AreClear (counted a) others
    → MayGrant others client mode a → Fits others client mode a
fits others client mode a h clear (inl covered) = fits_if_covered others client mode a h clear covered
fits others client mode a h clear (inr joins) = fits_if_joins others client mode a h joins.0 joins.1

pub grants_kept : Grants
grants_kept a others client mode gives_up h moves may clear = (
  with_rows a held h
      (λ away. charge_in_move a.moving (held_modes held) a.charge moves
      (below_one_more client mode a.held held a.charge more (held_below_charge a.moving (held_modes a.held) a.charge (h.charge away)) (fit.charge away)))
      (clear_one_more a (record a { held = held }) client mode h.clear more (λ x c. c) fit.rows fit.copies),
  counts_one_more others mode a.here (own_of a) (record_of a.entry) (own_of (record a { held = held }))
      (λ here. (own_one_more, fit.free here)),
)
  where
    held : List Row
    held = add_lock (give_up a.held client gives_up) client mode

    more : AreOneMore client mode a.held held
    more = rows_granted a.held client mode gives_up

    fit : Fits others client mode a
    fit = fits others client mode a h clear may

    own_one_more : IsBelow (own_of (record a { held = held })) (with_mode (own_of a) mode)
    own_one_more = below_by_members (own_of (record a { held = held })) (with_mode (own_of a) mode) (λ m member.
        elim (has-union m (held_modes held) (owed_and_waiting a) member) [
          | inl lock ↦ elim (has-with_mode m mode (held_modes a.held) (held_one_more client mode a.held held more m lock)) [
            | inl old ↦ has-kept m mode (own_of a) (has-left m (held_modes a.held) (owed_and_waiting a) old)
            | inr same ↦ subst (λ (x : Mode). IsTrue (has x (with_mode (own_of a) mode))) same (has-added mode (own_of a))
          ]
          | inr owed ↦ has-kept m mode (own_of a) (has-right m (held_modes a.held) (owed_and_waiting a) owed)
        ])

-- fewer rows
fewer_kept : (a : Account) (held : List Row) → AccountKept a → a.moving ≡ true → AreFewer a.held held
    → AccountKept (record a { held = held }) × CountsLess a (record a { held = held })
fewer_kept a held h moves fewer = (
  with_rows a held h
      (λ away. charge_in_move a.moving (held_modes held) a.charge moves
      (below_in_turn conflicts (held_modes held) (held_modes a.held) a.charge (below_fewer a.held held fewer)
      (held_below_charge a.moving (held_modes a.held) a.charge (h.charge away))))
      (clear_fewer a (record a { held = held }) h.clear fewer (λ x c. c)),
  counts_less a.here (own_of a) (record_of a.entry) (own_of (record a { held = held })) (record_of a.entry)
      (λ here. below_with_more conflicts (held_modes held) (held_modes a.held) (owed_and_waiting a) (below_fewer a.held held fewer))
      (λ away m bar. bar),
)

pub unlocks_kept : Unlocks
unlocks_kept a client mode h moves = fewer_kept a (take_lock a.held client mode) h moves (rows_taken a.held client mode)

pub drops_kept : Drops
drops_kept a client h moves = fewer_kept a (without_client a.held client) h moves (rows_dropped a.held client)
