-- A list, counted by a key of its items.
use Rattle.std.proofs.Common.{◌≡◌, ℕ, zero, suc, ◌+◌, ◌<◌, ◌≤◌, Bool, true, false, List, [], ◌∷◌, length, refl, arith, ap, sym, ◌∙◌, ◌==◌, if◌then◌else◌, Contains, sum_by, filter, eq-eqb}
use Rattle.std.proofs.lemmas.List.Sums.{sum_by-cons}
use Rattle.lt_lists.specs.Below.{sum_below}
use Rattle.lt_lists.proofs.Sums.{sum_below-same, sum_below-add, sum_below-at, sum_below-most}
use Rattle.lt_lists.proofs.Members.{contains_first, contains_later}

-- what the items with this key weigh
abbrev pub weight_at : {X : Type 0} → (X → ℕ) → (X → ℕ) → List X → ℕ → ℕ
weight_at key weight xs k = sum_by (λ x. if key x == k then weight x else 0) xs

-- the items with keys below n weigh no more than what all these keys weigh
pub by_key : {X : Type 0} (n : ℕ) (key weight : X → ℕ) (xs : List X) → ((x : X) → Contains xs x → key x < n)
    → sum_by weight xs ≤ sum_below n (weight_at key weight xs)
by_key n key weight [] below = omega arith
by_key {X = X} n key weight (x ∷ xs) below =
    let here : ℕ → ℕ = λ k. if key x == k then weight x else 0 in
    let own : ◌≡◌ {A = ℕ} (if key x == key x then weight x else 0) (weight x) = ap (λ (b : Bool). if b then weight x else 0) (eq-eqb (key x) (key x) refl) in
    let rest = by_key n key weight xs (λ y on. below y (contains_later x y xs on)) in
    let same = sum_below-same n (weight_at key weight (x ∷ xs)) (λ k. here k + weight_at key weight xs k)
    (λ k h. sum_by-cons (λ (y : X). if key y == k then weight y else 0) x xs) in
    let added = sum_below-add n here (weight_at key weight xs) in
    let one = sum_below-at n (key x) here (below x (contains_first x x xs refl)) in
    omega (arith, own, rest, same, added, one, sum_by-cons weight x xs)

-- what the items that pass weigh
pub filtered_weight : {X : Type 0} (test : X → Bool) (weight : X → ℕ) (xs : List X)
    → sum_by weight (filter test xs) ≡ sum_by (λ x. if test x then weight x else 0) xs
filtered_weight test weight [] = refl
filtered_weight {X = X} test weight (x ∷ xs) =
    by_test (test x) (filtered_weight test weight xs) ∙ sym (sum_by-cons (λ (y : X). if test y then weight y else 0) x xs)
  where
    by_test : (passes : Bool) → sum_by weight (filter test xs) ≡ sum_by (λ (y : X). if test y then weight y else 0) xs
        → sum_by weight (if passes then x ∷ filter test xs else filter test xs)
        ≡ (if passes then weight x else 0) + sum_by (λ (y : X). if test y then weight y else 0) xs
    by_test true e = omega (arith, sum_by-cons weight x (filter test xs), e)
    by_test false e = omega (arith, e)

-- a list is as long as its items are many
pub length_sum : {X : Type 0} (xs : List X) → sum_by (λ x. 1) xs ≡ length xs
length_sum [] = refl
length_sum {X = X} (x ∷ xs) = omega (arith, sum_by-cons (λ (y : X). 1) x xs, length_sum xs)

-- items with keys below n, each key at most once
pub few_keys : {X : Type 0} (n : ℕ) (key : X → ℕ) (xs : List X) → ((x : X) → Contains xs x → key x < n)
    → ((k : ℕ) → k < n → weight_at key (λ x. 1) xs k ≤ 1) → length xs ≤ n
few_keys {X = X} n key xs below once =
    let counted = by_key n key (λ (x : X). 1) xs below in
    let most = sum_below-most n (weight_at key (λ (x : X). 1) xs) (λ k. 1) once in
    omega (arith, counted, most, ones n, length_sum xs)
  where
    ones : (m : ℕ) → sum_below m (λ k. 1) ≡ m
    ones zero = refl
    ones (suc m) = omega (arith, ones m)
