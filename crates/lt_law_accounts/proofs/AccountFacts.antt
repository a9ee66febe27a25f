-- What is in the sets of modes that are gathered from rows, asks and owed asks, and in lists that a test leaves.
use Rattle.std.proofs.Common.{◌≡◌, inl, inr, List, [], ◌∷◌, refl, sym, ap, subst, arith, ◌∙◌, ◌≢◌, ℕ, ◌<◌, ◌≤◌, Bool, true, false, ◌⊎◌, Contains, IsTrue, fold, ◌==◌, IsFalse, AllPairs, slice_index_or, eq-eqb, eqb-true}
use Rattle.std.proofs.lemmas.Bool.{or_cases, or_left, or_right, both_ways, and_parts, and_from, cases_order}
use Rattle.std.proofs.lemmas.List.{get_or_default}
use Rattle.lt_modes.specs.declared.mode.Mode.{Mode}
use Rattle.lt_modes.specs.Modes.{Modes, has, no_modes, union, one, with_mode, same_mode, conflicts, bars, held_modes}
use Rattle.lt_modes.proofs.ModeAlgebra.{has-modes_by, has-itself, union_has_both, same_mode-true, none_in_none, bars_by_table, union_bars_both}
use Rattle.lt_modes.specs.declared.stamp.Stamp.{Stamp}
use Rattle.lt_modes.specs.declared.ask.Ask.{Ask}
use Rattle.lt_modes.specs.declared.parts.Owed.{Owed}
use Rattle.lt_modes.specs.State.{Tell, has_stamp, modes_of_asks, record_of, modes_of_owed, is_unanswered, still_owed}
use Rattle.lt_modes.specs.Telling.{is_newer, is_open, is_listed, same_stamp, left_owed}
use Rattle.lt_modes.specs.Sound.{IsNoLater, ChargeKept}
use Rattle.lt_lists.proofs.Members.{contains_first, contains_later, contains_cases, contains_filter, contains_filtered, list_any-at, list_any-which}
use Rattle.lt_law_accounts.specs.Account.{Account, AccountKept, CopiesOwed, Bars, IsBelow, owed_and_waiting, now_modes}
use Rattle.lt_law_accounts.proofs.Asks.{has_stamp-true, has_stamp-own}

-- one mode more
pub has-with_mode : (mode more : Mode) (modes : Modes) → IsTrue (has mode (with_mode modes more)) → IsTrue (has mode modes) ⊎ (more ≡ mode)
has-with_mode mode more modes h = elim (or_cases (has mode modes) (has mode (one more)) (sym (union_has_both modes (one more) mode) ∙ h)) [
  | inl own ↦ inl own
  | inr new ↦ inr (same_mode-true more mode (sym (has-modes_by (same_mode more) mode) ∙ new))
]

pub has-kept : (mode more : Mode) (modes : Modes) → IsTrue (has mode modes) → IsTrue (has mode (with_mode modes more))
has-kept mode more modes h = union_has_both modes (one more) mode ∙ or_left (has mode modes) (has mode (one more)) h

pub has-added : (mode : Mode) (modes : Modes) → IsTrue (has mode (with_mode modes mode))
has-added mode modes =
    union_has_both modes (one mode) mode
    ∙ or_right (has mode modes) (has mode (one mode)) (has-modes_by (same_mode mode) mode ∙ has-itself mode)

-- a union has what one of the two has
pub has-union : (mode : Mode) (a b : Modes) → IsTrue (has mode (union a b)) → IsTrue (has mode a) ⊎ IsTrue (has mode b)
has-union mode a b h = or_cases (has mode a) (has mode b) (sym (union_has_both a b mode) ∙ h)

pub has-left : (mode : Mode) (a b : Modes) → IsTrue (has mode a) → IsTrue (has mode (union a b))
has-left mode a b h = union_has_both a b mode ∙ or_left (has mode a) (has mode b) h

pub has-right : (mode : Mode) (a b : Modes) → IsTrue (has mode b) → IsTrue (has mode (union a b))
has-right mode a b h = union_has_both a b mode ∙ or_right (has mode a) (has mode b) h

-- the modes of items, gathered from this set on
abbrev gathered : {X : Type 0} → (X → Mode) → Modes → List X → Modes
gathered mode_of from xs = fold (λ modes x. with_mode modes (mode_of x)) from xs

gathered-from : {X : Type 0} (mode_of : X → Mode) (from : Modes) (xs : List X) (mode : Mode) → IsTrue (has mode from)
    → IsTrue (has mode (gathered mode_of from xs))
gathered-from mode_of from [] mode h = h
gathered-from mode_of from (x ∷ rest) mode h =
    gathered-from mode_of (with_mode from (mode_of x)) rest mode (has-kept mode (mode_of x) from h)

gathered-which : {X : Type 0} (mode_of : X → Mode) (from : Modes) (xs : List X) (mode : Mode) → IsTrue (has mode (gathered mode_of from xs))
    → IsTrue (has mode from) ⊎ ((x : X) × Contains xs x × (mode_of x ≡ mode))
gathered-which mode_of from [] mode h = inl h
gathered-which mode_of from (x ∷ rest) mode h =
    elim (gathered-which mode_of (with_mode from (mode_of x)) rest mode h) [
      | inl before ↦ elim (has-with_mode mode (mode_of x) from before) [
        | inl own ↦ inl own
        | inr same ↦ inr (x, contains_first x x rest refl, same)
      ]
      | inr later ↦ inr (later.0, contains_later x later.0 rest later.1, later.2)
    ]

gathered-at : {X : Type 0} (mode_of : X → Mode) (from : Modes) (xs : List X) (x : X) → Contains xs x
    → IsTrue (has (mode_of x) (gathered mode_of from xs))
gathered-at mode_of from [] x h = absurd (omega (arith, h.1))
gathered-at mode_of from (first ∷ rest) x h = elim (contains_cases first x rest h) [
  | inl same ↦
      gathered-from mode_of (with_mode from (mode_of first)) rest (mode_of x)
      (subst (λ (m : Mode). IsTrue (has m (with_mode from (mode_of first)))) (ap mode_of same) (has-added (mode_of first) from))
  | inr later ↦ gathered-at mode_of (with_mode from (mode_of first)) rest x later
]

-- a mode gathered from nothing is that of an item
pub mode_which : {X : Type 0} (mode_of : X → Mode) (xs : List X) (mode : Mode)
    → IsTrue (has mode (fold (λ modes x. with_mode modes (mode_of x)) no_modes xs)) → (x : X) × Contains xs x × (mode_of x ≡ mode)
mode_which mode_of xs mode h = elim (gathered-which mode_of no_modes xs mode h) [
  | inl none ↦ none_in_none mode none
  | inr found ↦ found
]

-- and the mode of each item is gathered
pub mode_at : {X : Type 0} (mode_of : X → Mode) (xs : List X) (x : X) → Contains xs x
    → IsTrue (has (mode_of x) (fold (λ modes x. with_mode modes (mode_of x)) no_modes xs))
mode_at mode_of xs x h = gathered-at mode_of no_modes xs x h

-- Facts on a kept account that many of its steps use.

-- asks with different stamps: two that stand there with one stamp are one
pub same_by_stamp : (asks : List Ask) (a b : Ask) → AllPairs (λ (x y : Ask). x.stamp ≢ y.stamp) asks → Contains asks a → Contains asks b
    → a.stamp ≡ b.stamp → a ≡ b
same_by_stamp asks a b apart ha hb e = elim (cases_order ha.0 hb.0) [
  | inl same ↦ sym ha.2 ∙ default_too ∙ ap (λ (n : ℕ). slice_index_or asks n b) same ∙ hb.2
  | inr other ↦ elim other [
    | inl before ↦ absurd (apart ha.0 hb.0 b before hb.1 (ap (λ (x : Ask). x.stamp) (sym default_too ∙ ha.2) ∙ e ∙ ap (λ (x : Ask). x.stamp) (sym hb.2)))
    | inr after ↦ absurd (apart hb.0 ha.0 b after ha.1 (ap (λ (x : Ask). x.stamp) hb.2 ∙ sym e ∙ ap (λ (x : Ask). x.stamp) (sym ha.2 ∙ default_too)))
  ]
]
  where
    default_too : slice_index_or asks ha.0 a ≡ slice_index_or asks ha.0 b
    default_too = get_or_default asks ha.0 a b ha.1

pub unanswered-which : (pending : List Ask) (stamp : Stamp) → is_unanswered pending stamp ≡ true → (ask : Ask) × Contains pending ask × (ask.stamp ≡ stamp)
unanswered-which pending stamp e =
    let found = list_any-which (has_stamp stamp) pending e in
    (found.0, found.1, has_stamp-true stamp found.0 found.2)

pub unanswered-at : (pending : List Ask) (stamp : Stamp) (ask : Ask) → Contains pending ask → ask.stamp ≡ stamp → is_unanswered pending stamp ≡ true
unanswered-at pending stamp ask h e = list_any-at (has_stamp stamp) pending ask h (has_stamp-own stamp ask e)

-- an owed ask that is unanswered
pub record WaitsOwed (pending : List Ask) (owed : List Owed) (mode : Mode) : Type 0 where
  pub copy : Owed
  pub ask : Ask
  pub owes : Contains owed copy
  pub waits : Contains pending ask
  pub same : ask.stamp ≡ copy.stamp
  pub is_mode : copy.mode ≡ mode

pub owed_mode-which : (owed : List Owed) (mode : Mode) → IsTrue (has mode (modes_of_owed owed)) → (copy : Owed) × Contains owed copy × (copy.mode ≡ mode)
owed_mode-which owed mode h = mode_which (λ (copy : Owed). copy.mode) owed mode h

pub owed_mode-at : (owed : List Owed) (copy : Owed) → Contains owed copy → IsTrue (has copy.mode (modes_of_owed owed))
owed_mode-at owed copy h = mode_at (λ (x : Owed). x.mode) owed copy h

pub still_owed-which : (pending : List Ask) (owed : List Owed) (mode : Mode) → IsTrue (has mode (modes_of_owed (still_owed pending owed)))
    → WaitsOwed pending owed mode
still_owed-which pending owed mode h =
    let found = owed_mode-which (still_owed pending owed) mode h in
    let parts = contains_filtered (λ (copy : Owed). is_unanswered pending copy.stamp) owed found.0 found.1 in
    let ask = unanswered-which pending found.0.stamp parts.1 in
    record { copy = found.0; ask = ask.0; owes = parts.0; waits = ask.1; same = ask.2; is_mode = found.2 }

pub still_owed-at : (pending : List Ask) (owed : List Owed) (copy : Owed) (ask : Ask) → Contains owed copy → Contains pending ask
    → ask.stamp ≡ copy.stamp → IsTrue (has copy.mode (modes_of_owed (still_owed pending owed)))
still_owed-at pending owed copy ask owes waits same =
    owed_mode-at (still_owed pending owed) copy
    (contains_filter (λ (c : Owed). is_unanswered pending c.stamp) owed copy owes (unanswered-at pending copy.stamp ask waits same))

-- what is owed and unanswered is on its way
pub waiting_is_copy : (a : Account) → CopiesOwed a.pending a.entry a.copies → (mode : Mode) → IsTrue (has mode (owed_and_waiting a))
    → (ask : Ask) × Contains a.copies ask × (ask.mode ≡ mode)
waiting_is_copy a h mode m =
    let w = still_owed-which a.pending a.entry.owed mode m in
    let found = h.on_way w.copy w.ask w.owes w.waits w.same in
    (w.ask, found.0, found.1 ∙ w.is_mode)

-- and what is on its way is owed and unanswered
pub copy_is_waiting : (a : Account) → CopiesOwed a.pending a.entry a.copies → (ask : Ask) → Contains a.copies ask → IsTrue (has ask.mode (owed_and_waiting a))
copy_is_waiting a h ask c = still_owed-at a.pending a.entry.owed (record { stamp = ask.stamp; mode = ask.mode }) ask (h.owed ask c) (h.waits ask c) refl

-- modes that bar, of lists of asks
pub asks_bar-which : (asks : List Ask) (mode : Mode) → Bars (modes_of_asks asks) mode → (ask : Ask) × Contains asks ask × IsTrue (conflicts mode ask.mode)
asks_bar-which asks mode h =
    let found = mode_which (λ (ask : Ask). ask.mode) asks h.0 h.2 in
    (found.0, found.1, subst (λ (m : Mode). IsTrue (conflicts mode m)) (sym found.2) h.1)

pub asks_bar-at : (asks : List Ask) (mode : Mode) (ask : Ask) → Contains asks ask → IsTrue (conflicts mode ask.mode) → Bars (modes_of_asks asks) mode
asks_bar-at asks mode ask h e = (ask.mode, e, mode_at (λ (x : Ask). x.mode) asks ask h)

-- more members bar more
pub below_by_members : (x y : Modes) → ((mode : Mode) → IsTrue (has mode x) → IsTrue (has mode y)) → IsBelow x y
below_by_members x y h mode b = (b.0, b.1, h b.0 b.2)

-- a test of `bars` that fails
pub bars_not : (modes : Modes) (mode : Mode) → IsFalse (has mode (bars modes)) → Bars modes mode → ⊥
bars_not modes mode e h = both_ways (has mode (bars modes)) e ((bars_by_table modes mode).1 h)

pub not_bars : (modes : Modes) (mode : Mode) → (Bars modes mode → ⊥) → IsFalse (has mode (bars modes))
not_bars modes mode none = by_test (has mode (bars modes)) refl
  where
    by_test : (t : Bool) → has mode (bars modes) ≡ t → t ≡ false
    by_test true e = absurd (none ((bars_by_table modes mode).0 e))
    by_test false e = refl

-- equal bars are below each other
pub below_by_bars : (x y : Modes) → bars x ≡ bars y → IsBelow x y
below_by_bars x y e mode h =
    (bars_by_table y mode).0 (subst (λ (m : Modes). IsTrue (has mode m)) e ((bars_by_table x mode).1 h))

-- the charge bars what is held, in a move and between moves
pub held_below_charge : (moving : Bool) (held charge : Modes) → ChargeKept moving held charge → IsBelow held charge
held_below_charge false held charge e = below_by_bars held charge e
held_below_charge true held charge h = h

pub held_below_now : (a : Account) → AccountKept a → a.here ≡ false → IsBelow (held_modes a.held) (now_modes a.charge a.copies)
held_below_now a h away mode bar =
    (union_bars_both conflicts a.charge (modes_of_asks a.copies) mode).1 (inl (held_below_charge a.moving (held_modes a.held) a.charge (h.charge away) mode bar))

-- the record bounds what is held and what copies bring
pub held_below_record : (a : Account) → AccountKept a → a.here ≡ false → IsBelow (held_modes a.held) (record_of a.entry)
held_below_record a h away mode bar = (h.cover away).record_bound mode (held_below_now a h away mode bar)

-- clocks
pub no_later_at_all : (moving : Bool) (clock k : ℕ) → IsNoLater moving clock k → k ≤ clock
no_later_at_all false clock k h = h
no_later_at_all true clock k h = omega (arith, h)

pub before_in_move : (a : Account) (k : ℕ) → a.moving ≡ true → IsNoLater a.moving a.clock k → k < a.clock
before_in_move a k e h = subst (λ (m : Bool). IsNoLater m a.clock k) e h

pub same_stamp-true : (x y : Stamp) → same_stamp x y ≡ true → x ≡ y
same_stamp-true x y e =
    let parts = and_parts (x.clock == y.clock) (x.node == y.node) e in
    let clocks = eqb-true x.clock y.clock parts.0 in
    let nodes = eqb-true x.node y.node parts.1 in
    λ i. record { clock = clocks i; node = nodes i }

pub same_stamp-itself : (x : Stamp) → same_stamp x x ≡ true
same_stamp-itself x = and_from (x.clock == x.clock) (x.node == x.node) (eq-eqb x.clock x.clock refl) (eq-eqb x.node x.node refl)

-- listed or later
pub open-cases : (listed : List Stamp) (told_at stamp : Stamp) → IsTrue (is_open listed told_at stamp) → Contains listed stamp ⊎ IsTrue (is_newer stamp told_at)
open-cases listed told_at stamp h = elim (or_cases (is_listed listed stamp) (is_newer stamp told_at) h) [
  | inl here ↦
      let found = list_any-which (same_stamp stamp) listed here in
      inl (subst (λ (z : Stamp). Contains listed z) (sym (same_stamp-true stamp found.0 found.2)) found.1)
  | inr later ↦ inr later
]

pub open_listed : (listed : List Stamp) (told_at stamp : Stamp) → Contains listed stamp → IsTrue (is_open listed told_at stamp)
open_listed listed told_at stamp h =
    or_left (is_listed listed stamp) (is_newer stamp told_at) (list_any-at (same_stamp stamp) listed stamp h (same_stamp-itself stamp))

pub open_later : (listed : List Stamp) (told_at stamp : Stamp) → IsTrue (is_newer stamp told_at) → IsTrue (is_open listed told_at stamp)
open_later listed told_at stamp h = or_right (is_listed listed stamp) (is_newer stamp told_at) h

-- owed asks that a tell leaves
pub left_owed-which : (tell : Tell) (owed : List Owed) (copy : Owed) → Contains (left_owed tell owed) copy
    → Contains owed copy × IsTrue (is_open tell.pending tell.stamp copy.stamp)
left_owed-which tell owed copy h = contains_filtered (λ (c : Owed). is_open tell.pending tell.stamp c.stamp) owed copy h

pub left_owed-at : (tell : Tell) (owed : List Owed) (copy : Owed) → Contains owed copy → IsTrue (is_open tell.pending tell.stamp copy.stamp)
    → Contains (left_owed tell owed) copy
left_owed-at tell owed copy h e = contains_filter (λ (c : Owed). is_open tell.pending tell.stamp c.stamp) owed copy h e

-- more copies bring more
pub now_with : (charge : Modes) (fewer more : List Ask) → ((ask : Ask) → Contains fewer ask → Contains more ask)
    → IsBelow (union charge (modes_of_asks fewer)) (union charge (modes_of_asks more))
now_with charge fewer more within mode bar = (union_bars_both conflicts charge (modes_of_asks more) mode).1
    (elim ((union_bars_both conflicts charge (modes_of_asks fewer) mode).0 bar) [
      | inl own ↦ inl own
      | inr brought ↦
          let found = asks_bar-which fewer mode brought in
          inr (asks_bar-at more mode found.0 (within found.0 found.1) found.2)
    ])

-- one mode more on both sides keeps the order
pub one_more_below : (x more_x y more_y : Modes) (mode : Mode) → ((m : Mode) → IsTrue (has m more_x) → IsTrue (has m x) ⊎ (m ≡ mode))
    → ((m : Mode) → IsTrue (has m y) → IsTrue (has m more_y)) → IsTrue (has mode more_y) → IsBelow x y → IsBelow more_x more_y
one_more_below x more_x y more_y mode cases keeps own below bar_mode bar = elim (cases bar.0 bar.2) [
  | inl before ↦ let found = below bar_mode (bar.0, bar.1, before) in (found.0, found.1, keeps found.0 found.2)
  | inr new ↦ (mode, subst (λ (m : Mode). IsTrue (conflicts bar_mode m)) new bar.1, own)
]

pub asks_which : (asks : List Ask) (mode : Mode) → IsTrue (has mode (modes_of_asks asks)) → (ask : Ask) × Contains asks ask × (ask.mode ≡ mode)
asks_which asks mode h = mode_which (λ (ask : Ask). ask.mode) asks mode h

pub asks_at : (asks : List Ask) (ask : Ask) → Contains asks ask → IsTrue (has ask.mode (modes_of_asks asks))
asks_at asks ask h = mode_at (λ (x : Ask). x.mode) asks ask h
