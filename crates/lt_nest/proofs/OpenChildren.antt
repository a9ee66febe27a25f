-- The first one that conflicts, among those that may stand against a mode.
use Rattle.std.proofs.Common.{◌≡◌, ℕ, List, Bool, true, false, not, refl, sym, ap, ◌∙◌, Some, None, slice_index_or, true≢false, ◌≢◌, suc, ◌+◌, ◌<◌, ◌≤◌, inl, inr, [], ◌∷◌, length, subst, arith, Option, ◌-◌, ◌&&◌, position, nat_lt, if◌then◌else◌, count_by, ◌==◌, eqb-true, lt-ltb, eq-eqb, ne_eqb, length-set, get_or-set_other, get_or-set_same}
use Rattle.std.specs.List.{list_any}
use Rattle.std.proofs.lemmas.Bool.{and_parts, false_from_ne_true, cases_eq}
use Rattle.std.proofs.lemmas.List.Elements.{Contains-get_or}
use Rattle.std.proofs.lemmas.List.Quantifiers.{position-Some}
use Rattle.std.proofs.lemmas.List.{get_or_default, same_lists}
use Rattle.std.proofs.lemmas.List.Sums.{sum_by-cons, sum_by_push, sum_by-set}
use Rattle.lt_lists.proofs.Members.{list_any-at, list_any-which}
use Rattle.lt_lists.proofs.Sums.{none_found, sum_by-zero, counted_some}
use Rattle.lt_nest.specs.declared.forest.Transaction.{Transaction}
use Rattle.lt_nest.specs.Forest.{missing_transaction, transaction_at, parent_of, is_open_transaction, is_own, with_begun, same_parent, is_open_child, end_one, end_if, end_under, IsOver}
use Rattle.lt_nest.specs.Forest.IsOver.{itself, above}
use Rattle.lt_nest.specs.Kept.{IsForest, TransactionsKept, open_children, empty_tally, nth_tally, with_child, without_child}
use Rattle.lt_nest.proofs.Ancestors.{open_within, own_over, over_own, own_itself, open_child}
use Rattle.lt_nest.proofs.EndedTransactions.{at_under}
use Rattle.lt_nest.proofs.NestStays.{length_end_under}
use Rattle.lt_nest.specs.declared.tally.Tally.{Tally}

both : (a b : Bool) → a ≡ true → b ≡ false → (a && not b) ≡ true
both true false first second = refl
both true true first second = absurd (cc second)
both false b first second = absurd (cc first)

-- where the first one isn't own, one bars
pub first_bars : {X : Type 0} (conflicts own : X → Bool) (xs : List X) (k : ℕ) (d : X) → position conflicts xs ≡ Some k → own (slice_index_or xs k d) ≡ false
    → list_any (λ x. conflicts x && not (own x)) xs ≡ true
first_bars conflicts own xs k d e other =
    let there = position-Some conflicts xs k d e in
    list_any-at (λ x. conflicts x && not (own x)) xs (slice_index_or xs k d) (Contains-get_or xs k d there.0) (both _ _ there.1 other)

-- where none conflicts, none bars
pub none_bars : {X : Type 0} (conflicts own : X → Bool) (xs : List X) → position conflicts xs ≡ None → list_any (λ x. conflicts x && not (own x)) xs ≡ false
none_bars conflicts own xs e = false_from_ne_true (list_any (λ x. conflicts x && not (own x)) xs) (λ one.
    let which = list_any-which (λ x. conflicts x && not (own x)) xs one in
    let place = which.1 in
    let yes : conflicts which.0 ≡ true = (and_parts (conflicts which.0) (not (own which.0)) which.2).0 in
    let no : conflicts which.0 ≡ false = ap conflicts (sym place.2) ∙ none_found conflicts xs e place.0 which.0 place.1 in
    true≢false (sym yes ∙ no))

-- How many open children transactions have, as others begin and end.

abbrev one_child : ℕ → Transaction → ℕ
one_child y t = if is_open_child y t then 1 else 0

-- what an open child of y is
open_child_parts : (y : ℕ) (t : Transaction) → is_open_child y t ≡ true → (not t.ended ≡ true) × (t.parent ≡ Some y)
open_child_parts y t e = by_end t.ended e
  where
    by_parent : (o : Option ℕ) → same_parent o y ≡ true → o ≡ Some y
    by_parent None f = absurd (cc f)
    by_parent (Some p) f = ap Some (eqb-true p y f)

    by_end : (ended : Bool) → (if ended then false else same_parent t.parent y) ≡ true → (not ended ≡ true) × (t.parent ≡ Some y)
    by_end true f = absurd (cc f)
    by_end false f = (refl, by_parent t.parent f)

-- it is counted exactly where there is one
pub has_children_is : (ts : List Transaction) (x : ℕ) → nat_lt 0 (open_children ts x) ≡ list_any (is_open_child x) ts
has_children_is ts x = by_any (list_any (is_open_child x) ts) refl
  where
    more : (n : ℕ) → 1 ≤ n → nat_lt 0 n ≡ true
    more n h = lt-ltb 0 n (omega (arith, h))

    none : (n : ℕ) → n ≡ 0 → nat_lt 0 n ≡ false
    none n e = ap (nat_lt 0) e

    by_any : (b : Bool) → list_any (is_open_child x) ts ≡ b → nat_lt 0 (open_children ts x) ≡ b
    by_any true e = let some = list_any-which (is_open_child x) ts e in more (open_children ts x) (counted_some (is_open_child x) ts some.0 some.1 some.2)
    by_any false e = none (open_children ts x) (sum_by-zero (one_child x) ts (λ i d within. no_child_at i d within (is_open_child x (slice_index_or ts i d)) refl))
      where
        no_child_at : (i : ℕ) (d : Transaction) → i < length ts → (b : Bool) → is_open_child x (slice_index_or ts i d) ≡ b → ◌≡◌ {A = ℕ} (if b then 1 else 0) 0
        no_child_at i d within true f =
            let wrong : false ≡ true = sym e ∙ list_any-at (is_open_child x) ts (slice_index_or ts i d) (Contains-get_or ts i d within) f in absurd (cc wrong)
        no_child_at i d within false f = refl

-- a further transaction is a child of its parent
abbrev pub one_if_parent : Option ℕ → ℕ → ℕ
one_if_parent parent y = if same_parent parent y then 1 else 0

pub children_begun : (ts : List Transaction) (parent : Option ℕ) (y : ℕ) → open_children (with_begun ts parent) y ≡ open_children ts y + one_if_parent parent y
children_begun ts parent y = sum_by_push (one_child y) ts (record { parent = parent; ended = false })

-- a transaction that wasn't begun has no child
pub children_unbegun : (ts : List Transaction) (y : ℕ) → IsForest ts → length ts ≤ y → open_children ts y ≡ 0
children_unbegun ts y forest past = sum_by-zero (one_child y) ts (λ i d within. none_at i d within (is_open_child y (slice_index_or ts i d)) refl)
  where
    none_at : (i : ℕ) (d : Transaction) → i < length ts → (b : Bool) → is_open_child y (slice_index_or ts i d) ≡ b → ◌≡◌ {A = ℕ} (if b then 1 else 0) 0
    none_at i d within true e =
        let parent : parent_of ts i ≡ Some y = ap (λ (t : Transaction). t.parent) (get_or_default ts i missing_transaction d within) ∙ (open_child_parts y (slice_index_or ts i d) e).1 in
        absurd (omega (arith, forest i y parent, within, past))
    none_at i d within false e = refl

-- an open transaction that ends is a child less of its parent
pub children_ended : (ts : List Transaction) (x y : ℕ) → is_open_transaction ts x ≡ true → open_children (end_one ts x) y + one_if_parent (parent_of ts x) y ≡ open_children ts y
children_ended ts x y opened = omega (
  arith,
  sum_by-set (one_child y) ts x (record (transaction_at ts x) { ended = true }) missing_transaction (open_within ts x opened),
  was,
)
  where
    by_end : (ended : Bool) → not ended ≡ true → ◌≡◌ {A = ℕ} (if (if ended then false else same_parent (parent_of ts x) y) then 1 else 0) (one_if_parent (parent_of ts x) y)
    by_end true e = absurd (cc e)
    by_end false e = refl

    was : one_child y (transaction_at ts x) ≡ one_if_parent (parent_of ts x) y
    was = by_end (transaction_at ts x).ended opened

-- the same test at each place counts the same
count_alike : {X : Type 0} (test : X → Bool) (xs ys : List X) (d : X) → length xs ≡ length ys → ((i : ℕ) → i < length xs → test (slice_index_or xs i d) ≡ test (slice_index_or ys i d))
    → count_by test xs ≡ count_by test ys
count_alike test [] [] d long same = refl
count_alike test [] (y ∷ ys) d long same = absurd (omega (arith, long))
count_alike test (x ∷ xs) [] d long same = absurd (omega (arith, long))
count_alike {X = X} test (x ∷ xs) (y ∷ ys) d long same =
    omega (
      arith,
      sum_by-cons one x xs,
      sum_by-cons one y ys,
      first,
      count_alike test xs ys d (omega (arith, long)) (λ i within. same (suc i) (omega (arith, within))),
    )
  where
    one : X → ℕ
    one z = if test z then 1 else 0

    first : one x ≡ one y
    first = ap (λ (b : Bool). if b then 1 else 0) (same 0 (omega arith))

-- of what isn't under x, the open children that end with x are x alone
pub children_under : (ts : List Transaction) (x y : ℕ) → TransactionsKept ts → is_open_transaction ts x ≡ true → is_own ts x y ≡ false → open_children (end_under ts x) y ≡ open_children (end_one ts x) y
children_under ts x y kept opened other =
    count_alike (is_open_child y) (end_under ts x) (end_one ts x) missing_transaction
    (length_end_under ts x ∙ sym (length-set ts x (record (transaction_at ts x) { ended = true })))
    (λ i within. elim (cases_eq i x) [
      | inl same ↦ subst (λ (j : ℕ). is_open_child y (transaction_at (end_under ts x) j) ≡ is_open_child y (transaction_at (end_one ts x) j)) (sym same) at_x
      | inr another ↦ at_other i another (is_own ts x i) refl
    ])
  where
    at_x : is_open_child y (transaction_at (end_under ts x) x) ≡ is_open_child y (transaction_at (end_one ts x) x)
    at_x =
        ap (is_open_child y) (at_under ts x x ∙ ap (λ (b : Bool). end_if b (transaction_at ts x)) (own_itself ts x))
        ∙ sym (ap (is_open_child y) (get_or-set_same ts x (record (transaction_at ts x) { ended = true }) missing_transaction (open_within ts x opened)))

    no_child : (i : ℕ) → i ≢ x → is_own ts x i ≡ true → (b : Bool) → is_open_child y (transaction_at ts i) ≡ b → b ≡ false
    no_child i another own true e =
        let parent = (open_child_parts y (transaction_at ts i) e).1 in
        let wrong : false ≡ true = sym other ∙ over_own ts x kept.forest y (up (own_over ts x i own) parent) in
        absurd (cc wrong)
      where
        up : IsOver ts x i → parent_of ts i ≡ Some y → IsOver ts x y
        up (itself j same) parent = absurd (another same)
        up (above j p f over) parent = subst (λ (q : ℕ). IsOver ts x q) (some_same p y (sym f ∙ parent)) over
          where
            some_same : (a b : ℕ) → Some a ≡ Some b → a ≡ b
            some_same a b g = cc g
    no_child i another own false e = refl

    at_other : (i : ℕ) → i ≢ x → (b : Bool) → is_own ts x i ≡ b → is_open_child y (transaction_at (end_under ts x) i) ≡ is_open_child y (transaction_at (end_one ts x) i)
    at_other i another b own =
        ap (is_open_child y) (at_under ts x i ∙ ap (λ (c : Bool). end_if c (transaction_at ts i)) own)
        ∙ by_test b own
        ∙ sym (ap (is_open_child y) (get_or-set_other ts x i (record (transaction_at ts x) { ended = true }) missing_transaction another))
      where
        by_test : (c : Bool) → is_own ts x i ≡ c → is_open_child y (end_if c (transaction_at ts i)) ≡ is_open_child y (transaction_at ts i)
        by_test true f = sym (no_child i another f (is_open_child y (transaction_at ts i)) refl)
        by_test false f = refl

-- where x has no open child, x alone ends
pub under_childless : (ts : List Transaction) (x : ℕ) → TransactionsKept ts → is_open_transaction ts x ≡ true → list_any (is_open_child x) ts ≡ false → end_one ts x ≡ end_under ts x
under_childless ts x kept opened childless =
    same_lists (end_one ts x) (end_under ts x) (length-set ts x ended ∙ sym (length_end_under ts x)) (λ i d within.
    get_or_default (end_one ts x) i d missing_transaction within
    ∙ at i
    ∙ sym (get_or_default (end_under ts x) i d missing_transaction (omega (arith, within, length_end_under ts x, length-set ts x ended))))
  where
    ended : Transaction
    ended = record (transaction_at ts x) { ended = true }

    stays : (t : Transaction) → not t.ended ≡ false → t ≡ record t { ended = true }
    stays t e = ap (λ (b : Bool). record t { ended = b }) (was t.ended e)
      where
        was : (b : Bool) → not b ≡ false → b ≡ true
        was true f = refl
        was false f = absurd (cc f)

    at_other : (i : ℕ) → i ≢ x → (own : Bool) → is_own ts x i ≡ own → transaction_at ts i ≡ end_if own (transaction_at ts i)
    at_other i another true own = stays (transaction_at ts i) (false_from_ne_true (is_open_transaction ts i) (λ open_i.
        let wrong : false ≡ true = sym childless ∙ open_child ts x kept i open_i another (own_over ts x i own) in cc wrong))
    at_other i another false own = refl

    at : (i : ℕ) → transaction_at (end_one ts x) i ≡ transaction_at (end_under ts x) i
    at i = elim (cases_eq i x) [
      | inl same ↦ subst (λ (j : ℕ). transaction_at (end_one ts x) j ≡ transaction_at (end_under ts x) j) (sym same)
          (get_or-set_same ts x ended missing_transaction (open_within ts x opened)
          ∙ sym (at_under ts x x ∙ ap (λ (b : Bool). end_if b (transaction_at ts x)) (own_itself ts x)))
      | inr another ↦
          get_or-set_other ts x i ended missing_transaction another ∙ at_other i another (is_own ts x i) refl
          ∙ ap (λ (b : Bool). end_if b (transaction_at ts i)) refl ∙ sym (at_under ts x i)
    ]

-- What is kept of each transaction once an open child of one is counted, or is counted no more.

with_child_at : (tallies : List Tally) (p x : ℕ) → p ≢ x → nth_tally (with_child tallies (Some p)) x ≡ nth_tally tallies x
with_child_at tallies p x other = get_or-set_other tallies p x (record (nth_tally tallies p) { children = (nth_tally tallies p).children + 1 }) empty_tally (λ same. other (sym same))

with_child_itself : (tallies : List Tally) (p : ℕ) → p < length tallies → nth_tally (with_child tallies (Some p)) p ≡ record (nth_tally tallies p) { children = (nth_tally tallies p).children + 1 }
with_child_itself tallies p within = get_or-set_same tallies p (record (nth_tally tallies p) { children = (nth_tally tallies p).children + 1 }) empty_tally within

pub counted_more : (tallies : List Tally) (parent : Option ℕ) (x : ℕ) → x < length tallies → (nth_tally (with_child tallies parent) x).children ≡ (nth_tally tallies x).children + one_if_parent parent x
counted_more tallies None x within = omega arith
counted_more tallies (Some p) x within = elim (cases_eq p x) [
  | inl same ↦
      let one : ◌≡◌ {A = ℕ} (if p == x then 1 else 0) 1 = ap (λ (b : Bool). if b then 1 else 0) (eq-eqb p x same) in
      let at : (nth_tally (with_child tallies (Some p)) x).children ≡ (nth_tally tallies x).children + 1 =
      subst (λ (i : ℕ). (nth_tally (with_child tallies (Some i)) x).children ≡ (nth_tally tallies x).children + 1) (sym same) (ap (λ (t : Tally). t.children) (with_child_itself tallies x within)) in
      omega (arith, one, at)
  | inr other ↦
      let none : ◌≡◌ {A = ℕ} (if p == x then 1 else 0) 0 = ap (λ (b : Bool). if b then 1 else 0) (ne_eqb p x other) in
      omega (arith, none, ap (λ (t : Tally). t.children) (with_child_at tallies p x other))
]

pub wish_counted : (tallies : List Tally) (parent : Option ℕ) (x : ℕ) → x < length tallies → (nth_tally (with_child tallies parent) x).wish ≡ (nth_tally tallies x).wish
wish_counted tallies None x within = refl
wish_counted tallies (Some p) x within = elim (cases_eq p x) [
  | inl same ↦ subst (λ (i : ℕ). (nth_tally (with_child tallies (Some i)) x).wish ≡ (nth_tally tallies x).wish) (sym same) (ap (λ (t : Tally). t.wish) (with_child_itself tallies x within))
  | inr other ↦ ap (λ (t : Tally). t.wish) (with_child_at tallies p x other)
]

pub length_counted : (tallies : List Tally) (parent : Option ℕ) → length (with_child tallies parent) ≡ length tallies
length_counted tallies None = refl
length_counted tallies (Some p) = length-set tallies p (record (nth_tally tallies p) { children = (nth_tally tallies p).children + 1 })

less_at : (tallies : List Tally) (p x : ℕ) → p ≢ x → nth_tally (without_child tallies (Some p)) x ≡ nth_tally tallies x
less_at tallies p x other = get_or-set_other tallies p x (record (nth_tally tallies p) { children = (nth_tally tallies p).children - 1 }) empty_tally (λ same. other (sym same))

less_itself : (tallies : List Tally) (p : ℕ) → p < length tallies → nth_tally (without_child tallies (Some p)) p ≡ record (nth_tally tallies p) { children = (nth_tally tallies p).children - 1 }
less_itself tallies p within = get_or-set_same tallies p (record (nth_tally tallies p) { children = (nth_tally tallies p).children - 1 }) empty_tally within

pub counted_less : (tallies : List Tally) (parent : Option ℕ) (x : ℕ) → x < length tallies → (nth_tally (without_child tallies parent) x).children ≡ (nth_tally tallies x).children - one_if_parent parent x
counted_less tallies None x within = omega arith
counted_less tallies (Some p) x within = elim (cases_eq p x) [
  | inl same ↦
      let one : ◌≡◌ {A = ℕ} (if p == x then 1 else 0) 1 = ap (λ (b : Bool). if b then 1 else 0) (eq-eqb p x same) in
      let at : (nth_tally (without_child tallies (Some p)) x).children ≡ (nth_tally tallies x).children - 1 =
      subst (λ (i : ℕ). (nth_tally (without_child tallies (Some i)) x).children ≡ (nth_tally tallies x).children - 1) (sym same) (ap (λ (t : Tally). t.children) (less_itself tallies x within)) in
      omega (arith, one, at)
  | inr other ↦
      let none : ◌≡◌ {A = ℕ} (if p == x then 1 else 0) 0 = ap (λ (b : Bool). if b then 1 else 0) (ne_eqb p x other) in
      omega (arith, none, ap (λ (t : Tally). t.children) (less_at tallies p x other))
]

pub wish_less : (tallies : List Tally) (parent : Option ℕ) (x : ℕ) → x < length tallies → (nth_tally (without_child tallies parent) x).wish ≡ (nth_tally tallies x).wish
wish_less tallies None x within = refl
wish_less tallies (Some p) x within = elim (cases_eq p x) [
  | inl same ↦ subst (λ (i : ℕ). (nth_tally (without_child tallies (Some i)) x).wish ≡ (nth_tally tallies x).wish) (sym same) (ap (λ (t : Tally). t.wish) (less_itself tallies x within))
  | inr other ↦ ap (λ (t : Tally). t.wish) (less_at tallies p x other)
]

pub length_less : (tallies : List Tally) (parent : Option ℕ) → length (without_child tallies parent) ≡ length tallies
length_less tallies None = refl
length_less tallies (Some p) = length-set tallies p (record (nth_tally tallies p) { children = (nth_tally tallies p).children - 1 })
