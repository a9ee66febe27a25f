-- What is kept of each transaction stays so.
use Rattle.std.proofs.Common.{◌≡◌, ℕ, ◌+◌, ◌<◌, ◌≤◌, inl, inr, List, [], ◌∷◌, ◌++◌, length, Bool, true, false, not, refl, sym, ap, subst, arith, ◌∙◌, Option, Some, None, ◌⊎◌, nat_lt, if◌then◌else◌, slice_index_or, slice_set, is_some, ne_eqb}
use Rattle.std.proofs.lemmas.Bool.{cases_eq, cases_lt}
use Rattle.std.proofs.lemmas.List.{length_push, get_or_append_left, get_or_push, get_or_past}
use Rattle.std.proofs.lemmas.List.Sums.{count_by-le-length}
use Rattle.lt_modes.specs.declared.mode.Mode.{Mode}
use Rattle.lt_nest.specs.declared.forest.Transaction.{Transaction}
use Rattle.lt_nest.specs.declared.tally.Tally.{Tally}
use Rattle.lt_nest.specs.declared.answers.Asked.{Asked}
use Rattle.lt_nest.specs.declared.answers.Asked.TheVariants.{Granted, Waits, False}
use Rattle.lt_nest.specs.Forest.{missing_transaction, is_open_transaction, with_begun, is_open_child}
use Rattle.lt_nest.specs.Locks.{LockSet, no_set, is_free_for, with_lock}
use Rattle.lt_nest.specs.Calls.{NestState, new_nest, has_parent, after_begin, has_open_child, waiting, waiting_from, ask_answer_from, ask_answer, queued, after_asked}
use Rattle.lt_nest.specs.Kept.{Kept, IsNest, empty_tally, nth_tally, with_wish, tallies_begun, tallies_asked, open_children, IsTally, AreTallied}
use Rattle.lt_nest.proofs.Ancestors.{open_within}
use Rattle.lt_nest.proofs.AddedLocks.{begun_was_open}
use Rattle.lt_nest.proofs.Wishes.{asked_before, waiting_put, waiting_queued, closed_waits}
use Rattle.lt_nest.proofs.GrantedWishes.{length_with_wish, wish_kept, wish_set, children_kept}
use Rattle.lt_nest.proofs.OpenChildren.{has_children_is, children_begun, children_unbegun, counted_more, wish_counted, length_counted}

-- what the code reads

pub wish_is : (st : NestState) (tallies : List Tally) (x : ℕ) → Kept st → AreTallied st tallies → (if is_open_transaction st.transactions x then (nth_tally tallies x).wish else None) ≡ waiting st x
wish_is st tallies x kept tallied = by_open (is_open_transaction st.transactions x) refl
  where
    by_open : (o : Bool) → is_open_transaction st.transactions x ≡ o → (if o then (nth_tally tallies x).wish else None) ≡ waiting st x
    by_open true e = (tallied.open_ones x e).wish
    by_open false e = sym (closed_waits st x kept e)

pub children_is : (st : NestState) (tallies : List Tally) (x : ℕ) → AreTallied st tallies → is_open_transaction st.transactions x ≡ true → nat_lt 0 (nth_tally tallies x).children ≡ has_open_child st x
children_is st tallies x tallied opened = ap (nat_lt 0) (tallied.open_ones x opened).children ∙ has_children_is st.transactions x

-- at the start
pub start_tallied : (n : ℕ) → AreTallied (new_nest n) []
start_tallied n = record { as_many = refl; open_ones = λ x e. absurd (omega (arith, open_within [] x e)) }

-- begin

pub begun_tallied : (st : NestState) (parent : Option ℕ) (tallies : List Tally) → Kept st → has_parent st parent ≡ true → AreTallied st tallies → AreTallied (after_begin st parent) (tallies_begun tallies parent)
begun_tallied st parent tallies kept under tallied = record {
  as_many = omega (arith, length_counted pushed parent, length_push tallies empty_tally, tallied.as_many, length_push ts (record { parent = parent; ended = false }));
  open_ones = λ x e. elim (cases_lt x (length ts)) [
    | inl old ↦ old_one x old e
    | inr new ↦ new_one x (omega (arith, new, open_within (with_begun ts parent) x e, length_push ts (record { parent = parent; ended = false })))
  ];
}
  where
    ts : List Transaction
    ts = st.transactions

    pushed : List Tally
    pushed = tallies ++ empty_tally ∷ []

    in_pushed : (x : ℕ) → x ≤ length ts → x < length pushed
    in_pushed x h = omega (arith, h, length_push tallies empty_tally, tallied.as_many)

    old_one : (x : ℕ) → x < length ts → is_open_transaction (with_begun ts parent) x ≡ true → IsTally (after_begin st parent) x (nth_tally (tallies_begun tallies parent) x)
    old_one x old e =
        let was = tallied.open_ones x (begun_was_open ts parent x old e) in
        let same : nth_tally pushed x ≡ nth_tally tallies x = get_or_append_left tallies (empty_tally ∷ []) empty_tally x (omega (arith, old, tallied.as_many)) in
        record {
          children = omega (
            arith,
            counted_more pushed parent x (in_pushed x (omega (arith, old))),
            ap (λ (t : Tally). t.children) same,
            was.children,
            children_begun ts parent x,
          );
          wish = wish_counted pushed parent x (in_pushed x (omega (arith, old))) ∙ ap (λ (t : Tally). t.wish) same ∙ was.wish;
        }

    new_one : (x : ℕ) → x ≡ length ts → IsTally (after_begin st parent) x (nth_tally (tallies_begun tallies parent) x)
    new_one x last =
        let same : nth_tally pushed x ≡ empty_tally = get_or_push tallies empty_tally empty_tally x (tallied.as_many ∙ sym last) in
        record {
          children = omega (
            arith,
            counted_more pushed parent x (in_pushed x (omega (arith, last))),
            ap (λ (t : Tally). t.children) same,
            children_begun ts parent x,
            children_unbegun ts x kept.transactions.forest (omega (arith, last)),
          );
          wish = wish_counted pushed parent x (in_pushed x (omega (arith, last))) ∙ ap (λ (t : Tally). t.wish) same
              ∙ sym (closed_waits st x kept (ap (λ (t : Transaction). not t.ended) (get_or_past ts x missing_transaction (omega (arith, last)))));
        }

-- what a begin needs of its parent's count
pub parent_counted : (st : NestState) (p room : ℕ) (tallies : List Tally) → IsNest st room → AreTallied st tallies → is_open_transaction st.transactions p ≡ true
    → (p < length tallies) × ((nth_tally tallies p).children ≤ length st.transactions)
parent_counted st p room tallies nest tallied opened =
    (omega (arith, open_within st.transactions p opened, tallied.as_many), omega (arith, (tallied.open_ones p opened).children, count_within st.transactions))
  where
    count_within : (ts : List Transaction) → open_children ts p ≤ length ts
    count_within ts = count_by-le-length (is_open_child p) ts

-- lock and try_lock

pub asked_tallied : (st : NestState) (x set : ℕ) (mode : Mode) (otherwise : Asked) (tallies : List Tally) → (otherwise ≡ Waits) ⊎ (otherwise ≡ False) → set < length st.sets → AreTallied st tallies
    → AreTallied (after_asked st x set mode (ask_answer otherwise st x set mode)) (tallies_asked tallies x set mode (ask_answer otherwise st x set mode))
asked_tallied st x set mode otherwise tallies which within tallied = by_answer (ask_answer otherwise st x set mode) refl
  where
    s : LockSet
    s = slice_index_or st.sets set no_set

    unchanged : AreTallied st tallies → (sets : List LockSet) → ((y : ℕ) → waiting_from 0 sets y ≡ waiting st y)
        → AreTallied (record st { sets = sets; asked = st.asked + 1 }) tallies
    unchanged was sets same = record {
      as_many = was.as_many;
      open_ones = λ y e. record { children = (was.open_ones y e).children; wish = (was.open_ones y e).wish ∙ sym (same y) };
    }

    at_set : 0 + set ≡ set
    at_set = omega arith

    waited : ask_answer otherwise st x set mode ≡ Waits → AreTallied (after_asked st x set mode Waits) (with_wish tallies x (Some (set, mode)))
    waited is = record {
      as_many = length_with_wish tallies x (Some (set, mode)) ∙ tallied.as_many;
      open_ones = λ y e. record {
        children = children_kept tallies x y (Some (set, mode)) (in_tallies y e) ∙ (tallied.open_ones y e).children;
        wish = elim (cases_eq x y) [
          | inl same ↦ subst (λ (i : ℕ). (nth_tally (with_wish tallies x (Some (set, mode))) i).wish ≡ waiting_from 0 (slice_set st.sets set (queued s x mode)) i) same
              (wish_set tallies x (Some (set, mode)) (subst (λ (i : ℕ). i < length tallies) (sym same) (in_tallies y e)) ∙ sym (waiting_queued 0 st.sets set x mode within free ∙ ap (λ (i : ℕ). Some (i, mode)) at_set))
          | inr other ↦
              wish_kept tallies x y (Some (set, mode)) (in_tallies y e) (λ same. absurd (other same))
              ∙ (tallied.open_ones y e).wish
              ∙ sym (waiting_put 0 st.sets set (queued s x mode) y (asked_before s.queue (record { owner = x; mode = mode }) y (ne_eqb x y other)))
        ];
      };
    }
      where
        in_tallies : (y : ℕ) → is_open_transaction st.transactions y ≡ true → y < length tallies
        in_tallies y e = omega (arith, open_within st.transactions y e, tallied.as_many)

        by_parts : (o w f : Bool) → ask_answer_from o w f otherwise ≡ Waits → w ≡ false
        by_parts false w f e = absurd (cc e)
        by_parts true true f e = absurd (cc e)
        by_parts true false f e = refl

        free : is_some (waiting st x) ≡ false
        free = by_parts (is_open_transaction st.transactions x) (is_some (waiting st x)) (is_free_for st.transactions s.entries s.queue x mode) is

    by_answer : (a : Asked) → ask_answer otherwise st x set mode ≡ a → AreTallied (after_asked st x set mode a) (tallies_asked tallies x set mode a)
    by_answer Granted is = unchanged tallied (slice_set st.sets set (with_lock s x mode)) (λ y. waiting_put 0 st.sets set (with_lock s x mode) y refl)
    by_answer Waits is = waited is
    by_answer other is = unchanged tallied st.sets (λ y. refl)
