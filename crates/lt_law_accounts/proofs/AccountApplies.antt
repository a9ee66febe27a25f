-- The account as a newer tell is applied.
use Rattle.std.proofs.Common.{◌≡◌, inl, inr, List, Bool, true, false, refl, sym, ap, subst, arith, ◌⊎◌, Contains, IsTrue, IsFalse, if◌then◌else◌}
use Rattle.lt_modes.specs.declared.mode.Mode.{Mode}
use Rattle.lt_modes.specs.declared.stamp.Stamp.{Stamp}
use Rattle.lt_modes.specs.declared.ask.Ask.{Ask}
use Rattle.lt_modes.specs.declared.parts.Owed.{Owed}
use Rattle.lt_modes.specs.Modes.{Modes, has, held_modes, conflicts}
use Rattle.lt_modes.specs.State.{Entry, Tell, record_of, modes_of_owed, still_owed, modes_of_asks, is_unanswered}
use Rattle.lt_modes.specs.Telling.{is_newer, is_open, left_owed, told, stamps_of}
use Rattle.lt_modes.proofs.StampOrder.{newer_in_turn, newer_one_way, newer_not_before}
use Rattle.lt_modes.proofs.ModeAlgebra.{conflicts-sym, union_below, clear_below, clear_both_ways}
use Rattle.lt_lists.proofs.Members.{contains_filter, contains_filtered, contains_map}
use Rattle.lt_law_accounts.specs.Account.{Account, AccountKept, AsksKnown, Covers, IsBelow, IsFreshTell, left_after, now_modes, own_of, owed_and_waiting, counted}
use Rattle.lt_law_accounts.specs.AccountSteps.{IsLoss, MayApply}
use Rattle.lt_law_accounts.specs.AccountPlay.{Applies, CountsLess, Settles, Arrives, HoldClear}
use Rattle.lt_law_accounts.proofs.AccountFacts.{owed_mode-which, owed_mode-at, still_owed-which, still_owed-at, left_owed-which, left_owed-at, open-cases, open_later, has-union, has-left, has-right, unanswered-which, unanswered-at, waiting_is_copy, copy_is_waiting, below_by_members, held_below_record, no_later_at_all, before_in_move, open_listed, asks_which, asks_at}
use Rattle.lt_law_accounts.proofs.AccountAsks.{union_members}

-- the entry after a newer tell
abbrev pub newly : Tell → Entry → Entry
newly tell entry = record entry {
  reported = tell.modes;
  owed = left_owed tell entry.owed;
  told_at = tell.stamp;
  pending = tell.pending;
}

pub told_newer : (tell : Tell) (entry : Entry) → IsTrue (is_newer tell.stamp entry.told_at) → told tell entry ≡ newly tell entry
told_newer tell entry e = ap (λ (t : Bool). if t then newly tell entry else entry) e

pub told_stale : (tell : Tell) (entry : Entry) → IsFalse (is_newer tell.stamp entry.told_at) → told tell entry ≡ entry
told_stale tell entry e = ap (λ (t : Bool). if t then newly tell entry else entry) e

-- the modes of fewer owed asks
pub owed_within : (fewer more : List Owed) → ((copy : Owed) → Contains fewer copy → Contains more copy) → (mode : Mode)
    → IsTrue (has mode (modes_of_owed fewer)) → IsTrue (has mode (modes_of_owed more))
owed_within fewer more within mode m =
    let found = owed_mode-which fewer mode m in
    subst (λ (x : Mode). IsTrue (has x (modes_of_owed more))) found.2 (owed_mode-at more found.0 (within found.0 found.1))

pub still_within : (pending : List Ask) (fewer more : List Owed) → ((copy : Owed) → Contains fewer copy → Contains more copy) → (mode : Mode)
    → IsTrue (has mode (modes_of_owed (still_owed pending fewer))) → IsTrue (has mode (modes_of_owed (still_owed pending more)))
still_within pending fewer more within mode m =
    let w = still_owed-which pending fewer mode m in
    subst (λ (x : Mode). IsTrue (has x (modes_of_owed (still_owed pending more)))) w.is_mode
    (still_owed-at pending more w.copy w.ask (within w.copy w.owes) w.waits w.same)

-- a tell after an older one leaves no more than it would have left alone
pub twice_less : (later older : Tell) (entry : Entry) → IsBelow (left_after (newly older entry) later) (left_after entry later)
twice_less later older entry = union_members later.modes (modes_of_owed (left_owed later (left_owed older entry.owed))) (modes_of_owed (left_owed later entry.owed))
    (owed_within (left_owed later (left_owed older entry.owed)) (left_owed later entry.owed) (λ copy c.
    let twice = left_owed-which later (left_owed older entry.owed) copy c in
    left_owed-at later entry.owed copy (left_owed-which older entry.owed copy twice.0).0 twice.1))

-- and no less, since what it lists is open in the older one
pub twice_more : (later older : Tell) (entry : Entry) → IsTrue (is_newer later.stamp older.stamp)
    → ((stamp : Stamp) → Contains later.pending stamp → IsTrue (is_open older.pending older.stamp stamp))
    → IsBelow (left_after entry later) (left_after (newly older entry) later)
twice_more later older entry newer lists = union_members later.modes (modes_of_owed (left_owed later entry.owed)) (modes_of_owed (left_owed later (left_owed older entry.owed)))
    (owed_within (left_owed later entry.owed) (left_owed later (left_owed older entry.owed)) (λ copy c.
    let once = left_owed-which later entry.owed copy c in
    left_owed-at later (left_owed older entry.owed) copy
    (left_owed-at older entry.owed copy once.0 (elim (open-cases later.pending later.stamp copy.stamp once.1) [
      | inl listed ↦ lists copy.stamp listed
      | inr after ↦ open_later older.pending older.stamp copy.stamp (newer_in_turn copy.stamp later.stamp older.stamp after newer)
    ])) once.1))

-- without the desk the node stays covered
pub covers_applied : (charge : Modes) (pending : List Ask) (entry : Entry) (tells left : List Tell) (copies : List Ask) (tell : Tell)
    → AsksKnown pending entry tells → Covers charge entry tells copies → Contains tells tell → IsTrue (is_newer tell.stamp entry.told_at)
    → IsLoss tell tells left → Covers charge (newly tell entry) left copies
covers_applied charge pending entry tells left copies tell known c came newer loss = record {
  record_bound = c.left_bound tell (came, newer);
  left_bound = λ u n mode bar. more u n mode (c.left_bound u (was u n) mode bar);
  record_shrinks = λ u n mode bar. c.left_shrinks u tell (was u n) (came, newer) (newer_one_way u.stamp tell.stamp n.1) mode (twice_less u tell entry mode bar);
  left_shrinks = λ later older l o not_newer mode bar. more older o mode
      (c.left_shrinks later older (was later l) (was older o) not_newer mode (twice_less later tell entry mode bar));
  exact = elim c.exact [
    | inl e ↦ inl (λ mode bar. e mode (c.record_shrinks tell (came, newer) mode bar))
    | inr e ↦ elim (loss.kept e.0 e.1.0) [
      | inl still ↦ by_order e.0 still e.1 e.2 (is_newer e.0.stamp tell.stamp) refl
      | inr same ↦ inl (λ mode bar. e.2 mode (subst (λ (t : Tell). IsBelow (left_after entry tell) (left_after entry t)) (sym same) (λ m b. b) mode bar))
    ]
  ];
}
  where
    was : (u : Tell) → IsFreshTell (newly tell entry) left u → IsFreshTell entry tells u
    was u n = (loss.only u n.0, newer_in_turn u.stamp tell.stamp entry.told_at n.1 newer)

    more : (u : Tell) → IsFreshTell (newly tell entry) left u → IsBelow (left_after entry u) (left_after (newly tell entry) u)
    more u n = twice_more u tell entry n.1 (known.lists u tell (loss.only u n.0) came n.1)

    by_order : (u : Tell) → Contains left u → IsFreshTell entry tells u → IsBelow (left_after entry u) (now_modes charge copies) → (t : Bool) → is_newer u.stamp tell.stamp ≡ t
        → IsBelow (record_of (newly tell entry)) (now_modes charge copies)
        ⊎ ((v : Tell) × IsFreshTell (newly tell entry) left v × IsBelow (left_after (newly tell entry) v) (now_modes charge copies))
    by_order u still news below true after = inr (u, (still, after), λ mode bar. below mode (twice_less u tell entry mode bar))
    by_order u still news below false before = inl (λ mode bar. below mode (c.left_shrinks tell u (came, newer) news before mode bar))

pub applied : (a : Account) (tell : Tell) (tells : List Tell) → AccountKept a → MayApply tell tells a → IsTrue (is_newer tell.stamp a.entry.told_at)
    → AccountKept (record a { entry = newly tell a.entry; tells = tells }) × CountsLess a (record a { entry = newly tell a.entry; tells = tells })
applied a tell tells h may newer = (
  record {
    clocks = record {
      asks = h.clocks.asks;
      apart = h.clocks.apart;
      tells_made = λ u c. h.clocks.tells_made u (may.left.only u c);
      tells_apart = λ x y cx cy. h.clocks.tells_apart x y (may.left.only x cx) (may.left.only y cy);
      told = h.clocks.tells_made tell may.came;
      owed = λ copy c. h.clocks.owed copy (left_owed-which tell a.entry.owed copy c).0;
    };
    known = record {
      in_entry = λ ask c. h.known.in_tells ask tell c may.came;
      in_tells = λ ask u c t. h.known.in_tells ask u c (may.left.only u t);
      lists = λ later older l o. h.known.lists later older (may.left.only later l) (may.left.only older o);
      entry_list = λ u n. h.known.lists u tell (may.left.only u n.0) may.came n.1;
    };
    owed = record {
      waits = h.owed.waits;
      owed = λ ask c. left_owed-at tell a.entry.owed (record { stamp = ask.stamp; mode = ask.mode }) (h.owed.owed ask c)
          (h.known.in_tells ask tell (h.owed.waits ask c) may.came);
      on_way = λ copy ask c p same. h.owed.on_way copy ask (left_owed-which tell a.entry.owed copy c).0 p same;
      open_still = λ copy c. (left_owed-which tell a.entry.owed copy c).1;
    };
    charge = h.charge;
    cover = λ away. covers_applied a.charge a.pending a.entry a.tells tells a.copies tell h.known (h.cover away) may.came newer may.left;
    clear = h.clear;
  },
  by_desk a.here refl,
)
  where
    by_desk : (here : Bool) → a.here ≡ here
        → IsBelow (if here then own_of (record a { entry = newly tell a.entry; tells = tells }) else record_of (newly tell a.entry)) (if here then own_of a else record_of a.entry)
    by_desk true e = union_members (held_modes a.held) (modes_of_owed (still_owed a.pending (left_owed tell a.entry.owed))) (modes_of_owed (still_owed a.pending a.entry.owed))
        (still_within a.pending (left_owed tell a.entry.owed) a.entry.owed (λ copy c. (left_owed-which tell a.entry.owed copy c).0))
    by_desk false e = (h.cover e).record_shrinks tell (may.came, newer)

pub applies_kept : Applies
applies_kept a tell tells h may newer =
    subst (λ (e : Entry). AccountKept (record a { entry = e; tells = tells }) × CountsLess a (record a { entry = e; tells = tells }))
    (sym (told_newer tell a.entry newer)) (applied a tell tells h may newer)

-- The account as the desk leaves and as it arrives.

pub settles_kept : Settles
settles_kept a stamp h may = (
  record {
    clocks = record {
      asks = h.clocks.asks;
      apart = h.clocks.apart;
      tells_made = λ tell c. no_later_at_all a.moving a.clock tell.stamp.clock (h.clocks.tells_made tell c);
      tells_apart = h.clocks.tells_apart;
      told = omega (arith, may.now);
      owed = λ copy c. no_later_at_all a.moving a.clock copy.stamp.clock (h.clocks.owed copy (still copy c).0);
    };
    known = record {
      in_entry = λ ask c. listed ask c;
      in_tells = h.known.in_tells;
      lists = h.known.lists;
      entry_list = λ tell n. absurd (none_newer tell n.0 n.1);
    };
    owed = record {
      waits = h.owed.waits;
      owed = λ ask c.
          contains_filter (λ (x : Owed). is_unanswered a.pending x.stamp) a.entry.owed (record { stamp = ask.stamp; mode = ask.mode }) (h.owed.owed ask c)
          (unanswered-at a.pending ask.stamp ask (h.owed.waits ask c) refl);
      on_way = λ copy ask c p same. h.owed.on_way copy ask (still copy c).0 p same;
      open_still = λ copy c.
          let ask = unanswered-which a.pending copy.stamp (still copy c).1 in
          subst (λ (z : Stamp). IsTrue (is_open (stamps_of a.pending) stamp z)) ask.2 (listed ask.0 ask.1);
    };
    charge = λ away. refl;
    cover = λ away. record {
      record_bound = below_by_members (now_modes (held_modes a.held) a.copies) (own_of a) (λ mode m.
          elim (has-union mode (held_modes a.held) (modes_of_asks a.copies) m) [
            | inl own ↦ has-left mode (held_modes a.held) (owed_and_waiting a) own
            | inr brought ↦
                let found = asks_which a.copies mode brought in
                has-right mode (held_modes a.held) (owed_and_waiting a)
                (subst (λ (x : Mode). IsTrue (has x (owed_and_waiting a))) found.2 (copy_is_waiting a h.owed found.0 found.1))
          ]);
      left_bound = λ tell n. absurd (none_newer tell n.0 n.1);
      record_shrinks = λ tell n. absurd (none_newer tell n.0 n.1);
      left_shrinks = λ later older l o. absurd (none_newer later l.0 l.1);
      exact = inl (below_by_members (own_of a) (now_modes (held_modes a.held) a.copies) (λ mode m.
          elim (has-union mode (held_modes a.held) (owed_and_waiting a) m) [
            | inl own ↦ has-left mode (held_modes a.held) (modes_of_asks a.copies) own
            | inr owed ↦
                let found = waiting_is_copy a h.owed mode owed in
                has-right mode (held_modes a.held) (modes_of_asks a.copies)
                (subst (λ (x : Mode). IsTrue (has x (modes_of_asks a.copies))) found.2 (asks_at a.copies found.0 found.1))
          ]));
    };
    clear = h.clear;
  },
  (
    subst (λ (here : Bool). IsBelow (own_of a) (if here then own_of a else record_of a.entry)) (sym may.here) (λ mode b. b),
    subst (λ (here : Bool). IsBelow (if here then own_of a else record_of a.entry) (own_of a)) (sym may.here) (λ mode b. b),
  ),
)
  where
    still : (copy : Owed) → Contains (still_owed a.pending a.entry.owed) copy → Contains a.entry.owed copy × (is_unanswered a.pending copy.stamp ≡ true)
    still copy c = contains_filtered (λ (x : Owed). is_unanswered a.pending x.stamp) a.entry.owed copy c

    listed : (ask : Ask) → Contains a.pending ask → IsTrue (is_open (stamps_of a.pending) stamp ask.stamp)
    listed ask c = open_listed (stamps_of a.pending) stamp ask.stamp (contains_map (λ (x : Ask). x.stamp) a.pending ask c)

    none_newer : (tell : Tell) → Contains a.tells tell → IsTrue (is_newer tell.stamp stamp) → ⊥
    none_newer tell c newer = omega (arith, newer_not_before tell.stamp stamp newer, before_in_move a tell.stamp.clock may.moves (h.clocks.tells_made tell c), may.now)

pub arrives_kept : Arrives
arrives_kept a h away = (
  record {
    clocks = h.clocks;
    known = h.known;
    owed = h.owed;
    charge = λ no. cc;
    cover = λ no. cc;
    clear = h.clear;
  },
  subst (λ (here : Bool). IsBelow (own_of a) (if here then own_of a else record_of a.entry)) (sym away)
      (union_below conflicts (held_modes a.held) (owed_and_waiting a) (record_of a.entry) (held_below_record a h away)
      (below_by_members (owed_and_waiting a) (record_of a.entry) (λ mode m.
      let w = still_owed-which a.pending a.entry.owed mode m in
      has-right mode a.entry.reported (modes_of_owed a.entry.owed)
      (subst (λ (x : Mode). IsTrue (has x (modes_of_owed a.entry.owed))) w.is_mode (owed_mode-at a.entry.owed w.copy w.owes))))),
)

pub held_below_counted : (a : Account) → AccountKept a → IsBelow (held_modes a.held) (counted a)
held_below_counted a h = by_desk a.here refl
  where
    by_desk : (here : Bool) → a.here ≡ here → IsBelow (held_modes a.held) (if here then own_of a else record_of a.entry)
    by_desk true e = below_by_members (held_modes a.held) (own_of a) (λ mode m. has-left mode (held_modes a.held) (owed_and_waiting a) m)
    by_desk false e = held_below_record a h e

pub hold_clear : HoldClear
hold_clear a b ha hb clear =
    let below_a = clear_below conflicts conflicts-sym (held_modes a.held) (counted a) (counted b) (held_below_counted a ha) clear in
    let turned = clear_both_ways conflicts conflicts-sym (held_modes a.held) (counted b) below_a in
    let below_b = clear_below conflicts conflicts-sym (held_modes b.held) (counted b) (held_modes a.held) (held_below_counted b hb) turned in
    clear_both_ways conflicts conflicts-sym (held_modes b.held) (held_modes a.held) below_b
