-- For whom a transaction waits.
use Rattle.std.proofs.Common.{◌≡◌, ℕ, ◌+◌, ◌<◌, inl, inr, List, [], ◌∷◌, length, Bool, true, false, not, refl, ap, subst, ◌∙◌, Option, Some, None, take, ◌⊎◌, ◌&&◌, ◌||◌, ◌==◌, Contains, is_some, position, eqb-true, eq-eqb}
use Rattle.std.specs.List.{list_any}
use Rattle.std.proofs.lemmas.Bool.{and_parts, or_cases, or_left, or_right, not-true}
use Rattle.std.proofs.lemmas.List.Elements.{All-contains, All-take}
use Rattle.std.proofs.lemmas.List.Quantifiers.{position-Some}
use Rattle.lt_lists.proofs.Members.{contains_first, contains_later, list_any-at, list_any-which}
use Rattle.lt_modes.specs.declared.mode.Mode.{Mode}
use Rattle.lt_modes.specs.Modes.{conflicts}
use Rattle.lt_nest.specs.declared.forest.Transaction.{Transaction}
use Rattle.lt_nest.specs.Forest.{is_open_transaction, is_own}
use Rattle.lt_nest.specs.Locks.{LockSet, missing_ask, nth_ask, is_asked_by, is_against, entry_is_against, ask_is_against, is_free_for}
use Rattle.lt_nest.specs.Calls.{NestState, mode_asked_at, wish_or, waiting_from, waiting, holder_is_against, asker_is_against, is_in_way, waits_at, waits_in, is_waiting_for}
use Rattle.lt_nest.specs.Kept.{IsHolder, IsAsker, LockSetKept, Kept}

-- x has an ask in one of the sets
record HasAsk (sets : List LockSet) (x : ℕ) : Type 0 where
  set : LockSet
  place : ℕ
  there : Contains sets set
  found : position (is_asked_by x) set.queue ≡ Some place

has_ask : (k : ℕ) (sets : List LockSet) (x : ℕ) → is_some (waiting_from k sets x) ≡ true → HasAsk sets x
has_ask k [] x e = absurd (cc e)
has_ask k (s ∷ rest) x e = by_place (position (is_asked_by x) s.queue) refl e (has_ask (k + 1) rest x)
  where
    by_place : (o : Option ℕ) → position (is_asked_by x) s.queue ≡ o → is_some (wish_or k (waiting_from (k + 1) rest x) (mode_asked_at s.queue o)) ≡ true
        → (is_some (waiting_from (k + 1) rest x) ≡ true → HasAsk rest x) → HasAsk (s ∷ rest) x
    by_place (Some j) found h again = record { set = s; place = j; there = contains_first s s rest refl; found = found }
    by_place None found h again =
        let later = again h in
        record { set = later.set; place = later.place; there = contains_later s later.set rest later.there; found = later.found }

both : (a b : Bool) → a ≡ true → b ≡ true → (a && b) ≡ true
both true true first second = refl
both true false first second = absurd (cc second)
both false b first second = absurd (cc first)

-- what isn't free has something against it
barred : (a b : Bool) → (not a && not b) ≡ false → (a ≡ true) ⊎ (b ≡ true)
barred true b e = inl refl
barred false true e = inr refl
barred false false e = absurd (cc e)

some_in_way : (ts : List Transaction) (s : LockSet) (x : ℕ) (mode : Mode) (j : ℕ) → is_free_for ts s.entries (take j s.queue) x mode ≡ false
    → (y : ℕ) × (is_in_way ts s x mode j y ≡ true)
some_in_way ts s x mode j e =
    elim (barred (list_any (entry_is_against ts x mode) s.entries) (list_any (ask_is_against ts x mode) (take j s.queue)) e) [
      | inl held ↦
          let which = list_any-which (entry_is_against ts x mode) s.entries held in
          let y : ℕ = which.0.owner in
          let own : holder_is_against ts x mode y which.0 ≡ true = both (y == y) (entry_is_against ts x mode which.0) (eq-eqb y y refl) which.2 in
          (y, or_left _ _ (list_any-at (holder_is_against ts x mode y) s.entries which.0 which.1 own))
      | inr asked ↦
          let which = list_any-which (ask_is_against ts x mode) (take j s.queue) asked in
          let y : ℕ = which.0.owner in
          let own : asker_is_against ts x mode y which.0 ≡ true = both (y == y) (ask_is_against ts x mode which.0) (eq-eqb y y refl) which.2 in
          (y, or_right _ _ (list_any-at (asker_is_against ts x mode y) (take j s.queue) which.0 which.1 own))
    ]

pub waits_for_some : (st : NestState) (x : ℕ) → Kept st → is_some (waiting st x) ≡ true → (y : ℕ) × (is_waiting_for st x y ≡ true)
waits_for_some st x kept waits = (way.0, list_any-at (waits_in st.transactions x way.0) st.sets s ask.there in_set)
  where
    ask : HasAsk st.sets x
    ask = has_ask 0 st.sets x waits

    s : LockSet
    s = ask.set

    its : (ask.place < length s.queue) × (is_asked_by x (nth_ask s.queue ask.place) ≡ true)
    its = let h = position-Some (is_asked_by x) s.queue ask.place missing_ask ask.found in (h.0, h.1)

    owner : (nth_ask s.queue ask.place).owner ≡ x
    owner = eqb-true (nth_ask s.queue ask.place).owner x its.1

    not_free : is_free_for st.transactions s.entries (take ask.place s.queue) x (nth_ask s.queue ask.place).mode ≡ false
    not_free =
        subst (λ (i : ℕ). is_free_for st.transactions s.entries (take ask.place s.queue) i (nth_ask s.queue ask.place).mode ≡ false) owner
        ((All-contains (LockSetKept st.transactions) st.sets s kept.sets ask.there).none_free ask.place its.0)

    way : (y : ℕ) × (is_in_way st.transactions s x (nth_ask s.queue ask.place).mode ask.place y ≡ true)
    way = some_in_way st.transactions s x (nth_ask s.queue ask.place).mode ask.place not_free

    in_set : waits_in st.transactions x way.0 s ≡ true
    in_set = ap (λ (o : Option ℕ). waits_at st.transactions s x way.0 o) ask.found ∙ way.1

-- y is open, and it is neither x nor an ancestor of x
abbrev IsOtherOpen : List Transaction → ℕ → ℕ → Type 0
IsOtherOpen ts x y = (is_open_transaction ts y ≡ true) × (is_own ts y x ≡ false)

owner_is_other : (ts : List Transaction) (x y owner : ℕ) (mode other : Mode) → (owner == y && is_against ts x mode owner other) ≡ true → is_open_transaction ts owner ≡ true → IsOtherOpen ts x y
owner_is_other ts x y owner mode other e opened =
    let parts = and_parts (owner == y) (is_against ts x mode owner other) e in
    let same : owner ≡ y = eqb-true owner y parts.0 in
    let against = and_parts (conflicts mode other) (not (is_own ts owner x)) parts.1 in
    (subst (λ (i : ℕ). is_open_transaction ts i ≡ true) same opened, subst (λ (i : ℕ). is_own ts i x ≡ false) same (not-true (is_own ts owner x) against.1))

in_way_is_other : (ts : List Transaction) (s : LockSet) (x y : ℕ) (o : Option ℕ) → LockSetKept ts s → waits_at ts s x y o ≡ true → IsOtherOpen ts x y
in_way_is_other ts s x y None kept e = absurd (cc e)
in_way_is_other ts s x y (Some j) kept e =
    let mode : Mode = (nth_ask s.queue j).mode in
    elim (or_cases (list_any (holder_is_against ts x mode y) s.entries) (list_any (asker_is_against ts x mode y) (take j s.queue)) e) [
      | inl held ↦
          let which = list_any-which (holder_is_against ts x mode y) s.entries held in
          owner_is_other ts x y which.0.owner mode which.0.mode which.2 (All-contains (IsHolder ts) s.entries which.0 kept.sound.holders which.1)
      | inr asked ↦
          let which = list_any-which (asker_is_against ts x mode y) (take j s.queue) asked in
          owner_is_other ts x y which.0.owner mode which.0.mode which.2
          (All-contains (IsAsker ts) (take j s.queue) which.0 (All-take (IsAsker ts) j s.queue kept.sound.askers) which.1)
    ]

pub waits_for_others : (st : NestState) (x y : ℕ) → Kept st → is_waiting_for st x y ≡ true → IsOtherOpen st.transactions x y
waits_for_others st x y kept waits =
    let which = list_any-which (waits_in st.transactions x y) st.sets waits in
    in_way_is_other st.transactions which.0 x y (position (is_asked_by x) which.0.queue)
    (All-contains (LockSetKept st.transactions) st.sets which.0 kept.sets which.1) which.2

-- where no set has an ask of x, it waits for none
none_in_sets : (k : ℕ) (ts : List Transaction) (sets : List LockSet) (x y : ℕ) → is_some (waiting_from k sets x) ≡ false → list_any (waits_in ts x y) sets ≡ false
none_in_sets k ts [] x y e = refl
none_in_sets k ts (s ∷ rest) x y e = by_place (position (is_asked_by x) s.queue) e (none_in_sets (k + 1) ts rest x y)
  where
    by_place : (o : Option ℕ) → is_some (wish_or k (waiting_from (k + 1) rest x) (mode_asked_at s.queue o)) ≡ false
        → (is_some (waiting_from (k + 1) rest x) ≡ false → list_any (waits_in ts x y) rest ≡ false)
        → (waits_at ts s x y o || list_any (waits_in ts x y) rest) ≡ false
    by_place (Some j) h again = absurd (cc h)
    by_place None h again = again h

pub only_waiters_wait : (st : NestState) (x y : ℕ) → is_some (waiting st x) ≡ false → is_waiting_for st x y ≡ false
only_waiters_wait st x y free = none_in_sets 0 st.transactions st.sets x y free
