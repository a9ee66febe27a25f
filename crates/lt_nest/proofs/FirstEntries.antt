-- Where the entry of an owner and a mode is, and what it tells of the others.
use Rattle.std.proofs.Common.{◌≡◌, ℕ, ◌<◌, inl, inr, List, [], ◌∷◌, ◌++◌, length, Bool, true, false, true≢false, not, refl, sym, ap, subst, arith, ◌∙◌, Option, Some, None, Contains, slice_index_or, slice_set, position, is_some, eqb-true, eq-eqb, lt-ltb, nat_lt, length-set, ◌==◌, ◌&&◌}
use Rattle.std.specs.List.{list_any, position_or_len}
use Rattle.std.proofs.lemmas.Bool.{and_parts, cases_eq, not-true, false_from_ne_true}
use Rattle.std.proofs.lemmas.List.{get_or_default, get_or_append_left, get_or_push, length_push}
use Rattle.std.proofs.lemmas.List.Elements.{All-contains, All-get_or, Contains-get_or}
use Rattle.std.proofs.lemmas.List.Folds.{position_or_len-set}
use Rattle.std.proofs.lemmas.List.Quantifiers.{position-Some}
use Rattle.std.proofs.lemmas.List.Sums.{position_or_len_is}
use Rattle.lt_lists.proofs.Members.{list_any-which}
use Rattle.lt_lists.proofs.Sums.{none_found}
use Rattle.lt_modes.specs.declared.mode.Mode.{Mode}
use Rattle.lt_modes.specs.Modes.{conflicts, same_mode}
use Rattle.lt_nest.specs.declared.forest.Transaction.{Transaction}
use Rattle.lt_nest.specs.declared.locks.Entry.{Entry}
use Rattle.lt_nest.specs.declared.locks.Ask.{Ask}
use Rattle.lt_nest.specs.declared.tally.Tally.{Tally}
use Rattle.lt_nest.specs.Forest.{is_open_transaction, is_own, is_open_child}
use Rattle.lt_nest.specs.Locks.{LockSet, missing_entry, nth_entry, no_set, is_entry_of, entry_is_against, ask_is_against, is_free_for}
use Rattle.lt_nest.specs.Calls.{NestState, nth_set}
use Rattle.lt_nest.specs.Kept.{AreRelated, IsHolder, LockSetKept, IsLastIn, IsTalliedNest, nth_tally}
use Rattle.lt_nest.proofs.Ancestors.{own_over, own_itself, open_child}
use Rattle.lt_nest.proofs.AddedLocks.{same_mode-true}
use Rattle.lt_nest.proofs.TalliedNests.{childless_is}

place_is : {X : Type 0} (test : X → Bool) (xs : List X) (k : ℕ) → position_or_len test xs ≡ k → k < length xs → position test xs ≡ Some k
place_is test xs k e h = rw (e, lt-ltb k (length xs) h) refl

place_from : {X : Type 0} (test : X → Bool) (xs : List X) (k : ℕ) (d : X) → position test xs ≡ Some k → position_or_len test xs ≡ k
place_from test xs k d found =
    let at = position-Some test xs k d found in position_or_len_is test xs k d (omega (arith, at.0)) at.2 (λ within. at.1)

same_mode_itself : (mode : Mode) → same_mode mode mode ≡ true
same_mode_itself mode = grind arith

-- an entry more, where there was none
pub place_pushed : (entries : List Entry) (x : ℕ) (mode : Mode) (n : ℕ) → position (is_entry_of x mode) entries ≡ None
    → position (is_entry_of x mode) (entries ++ record { owner = x; mode = mode; count = n } ∷ []) ≡ Some (length entries)
place_pushed entries x mode n none =
    let more = length_push entries new in
    place_is test (entries ++ new ∷ []) (length entries)
    (position_or_len_is test (entries ++ new ∷ []) (length entries) missing_entry (omega (arith, more))
    (λ k within. ap test (get_or_append_left entries (new ∷ []) missing_entry k within) ∙ none_found test entries none k missing_entry within)
    (λ within. ap test (get_or_push entries new missing_entry (length entries) refl) ∙ is_new))
    (omega (arith, more))
  where
    test : Entry → Bool
    test = is_entry_of x mode

    new : Entry
    new = record { owner = x; mode = mode; count = n }

    is_new : is_entry_of x mode (record { owner = x; mode = mode; count = n }) ≡ true
    is_new = rw (eq-eqb x x refl) (same_mode_itself mode)

-- another count at its place
pub place_counted : (entries : List Entry) (x : ℕ) (mode : Mode) (k n : ℕ) → position (is_entry_of x mode) entries ≡ Some k
    → position (is_entry_of x mode) (slice_set entries k (record (nth_entry entries k) { count = n })) ≡ Some k
place_counted entries x mode k n found =
    let new : Entry = record (nth_entry entries k) { count = n } in
    place_is (is_entry_of x mode) (slice_set entries k new) k
    (position_or_len-set (is_entry_of x mode) entries k new missing_entry refl ∙ place_from (is_entry_of x mode) entries k missing_entry found)
    (omega (arith, length-set entries k new, (position-Some (is_entry_of x mode) entries k missing_entry found).0))

-- no entry stands against what the last of a line holds
own_bars_none : (ts : List Transaction) (entries : List Entry) (x : ℕ) (mode : Mode) (k : ℕ) → IsLastIn ts entries x
    → position (is_entry_of x mode) entries ≡ Some k → list_any (entry_is_against ts x mode) entries ≡ false
own_bars_none ts entries x mode k last found = false_from_ne_true (list_any (entry_is_against ts x mode) entries) (λ one.
    let which = list_any-which (entry_is_against ts x mode) entries one in
    let against = and_parts (conflicts mode which.0.mode) (not (is_own ts which.0.owner x)) which.2 in
    true≢false (sym (own which.0 which.1 against.0) ∙ not-true (is_own ts which.0.owner x) against.1))
  where
    e : Entry
    e = nth_entry entries k

    at : (k < length entries) × (is_entry_of x mode (slice_index_or entries k missing_entry) ≡ true) × ((j : ℕ) → j < k → is_entry_of x mode (slice_index_or entries j missing_entry) ≡ false)
    at = position-Some (is_entry_of x mode) entries k missing_entry found

    parts : (((nth_entry entries k).owner == x) ≡ true) × (same_mode (nth_entry entries k).mode mode ≡ true)
    parts = and_parts ((nth_entry entries k).owner == x) (same_mode (nth_entry entries k).mode mode) at.1

    owner_is : e.owner ≡ x
    owner_is = eqb-true e.owner x parts.0

    mode_is : e.mode ≡ mode
    mode_is = same_mode-true e.mode mode parts.1

    own : (f : Entry) → Contains entries f → conflicts mode f.mode ≡ true → is_own ts f.owner x ≡ true
    own f there conflict =
        by_related (last.apart e f (Contains-get_or entries k missing_entry at.0) there (ap (λ (m : Mode). conflicts m f.mode) mode_is ∙ conflict))
      where
        by_related : AreRelated ts e.owner f.owner → is_own ts f.owner x ≡ true
        by_related (inl under) = last.last f there (subst (λ (o : ℕ). is_own ts o f.owner ≡ true) owner_is under)
        by_related (inr over) = subst (λ (o : ℕ). is_own ts f.owner o ≡ true) owner_is over

-- so it is free unless an ask bars it
pub free_of_own : (ts : List Transaction) (entries : List Entry) (earlier : List Ask) (x : ℕ) (mode : Mode) → IsLastIn ts entries x
    → is_some (position (is_entry_of x mode) entries) ≡ true → not (list_any (ask_is_against ts x mode) earlier) ≡ is_free_for ts entries earlier x mode
free_of_own ts entries earlier x mode last has = by_place (position (is_entry_of x mode) entries) refl has
  where
    by_place : (o : Option ℕ) → position (is_entry_of x mode) entries ≡ o → is_some o ≡ true
        → not (list_any (ask_is_against ts x mode) earlier) ≡ is_free_for ts entries earlier x mode
    by_place None found some = absurd (cc some)
    by_place (Some k) found some =
        sym (ap (λ (b : Bool). not b && not (list_any (ask_is_against ts x mode) earlier)) (own_bars_none ts entries x mode k last found))

-- an open transaction with no open child is the last of its line in each set
pub childless_last : (st : NestState) (x k : ℕ) (tallies : List Tally) (room : ℕ) → IsTalliedNest st tallies room → is_open_transaction st.transactions x ≡ true
    → k < length st.sets → list_any (is_open_child x) st.transactions ≡ false → IsLastIn st.transactions (nth_set st k).entries x
childless_last st x k tallies room is opened within childless = record {
  apart = kept.sound.apart;
  last = λ e there own. elim (cases_eq e.owner x) [
    | inl same ↦ subst (λ (o : ℕ). is_own st.transactions o x ≡ true) (sym same) (own_itself st.transactions x)
    | inr other ↦
        let holder : is_open_transaction st.transactions e.owner ≡ true = All-contains (IsHolder st.transactions) (nth_set st k).entries e kept.sound.holders there in
        absurd (true≢false (sym (open_child st.transactions x is.nest.kept.transactions e.owner holder other (own_over st.transactions x e.owner own)) ∙ childless))
  ];
}
  where
    kept : LockSetKept st.transactions (nth_set st k)
    kept = All-get_or (LockSetKept st.transactions) st.sets k no_set within is.nest.kept.sets

-- the same of what is read of the nest
pub last_read : (st : NestState) (x k : ℕ) (tallies noted : List Tally) (room : ℕ) (has : Bool) (read : List Transaction) (s : LockSet) → IsTalliedNest st tallies room
    → is_open_transaction st.transactions x ≡ true → k < length st.sets → noted ≡ tallies → has ≡ nat_lt 0 (nth_tally noted x).children → not has ≡ true
    → read ≡ st.transactions → s ≡ slice_index_or st.sets k s → IsLastIn read s.entries x
last_read st x k tallies noted room has read s is opened within noted_is has_is none read_is set_is =
    subst (λ (ts : List Transaction). IsLastIn ts s.entries x) (sym read_is)
    (subst (λ (t : LockSet). IsLastIn st.transactions t.entries x) (sym (set_is ∙ get_or_default st.sets k s no_set within))
    (childless_last st x k tallies room is opened within (childless_is st x tallies noted room has is opened noted_is has_is none)))
