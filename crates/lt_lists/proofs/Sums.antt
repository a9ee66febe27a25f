-- Sums over the numbers below a bound, and over lists.
use Rattle.std.proofs.Common.{◌≡◌, ◌≢◌, ℕ, zero, suc, ◌+◌, ◌<◌, ◌≤◌, inl, inr, Bool, true, false, List, [], ◌∷◌, length, Some, None, refl, arith, ap, sym, ◌∙◌, ◌⊎◌, ◌==◌, if◌then◌else◌, nat_lt, position, Contains, count_by, sum_by, slice_index_or, eq-eqb, ne_eqb, lt-ltb}
use Rattle.std.specs.List.{position_or_len}
use Rattle.std.proofs.lemmas.Bool.{cases_eq, cases_lt, cases_order, false≢true}
use Rattle.std.proofs.lemmas.List.Sums.{sum_by-cons, get_or-le-sum_by, fails_before_first}
use Rattle.lt_lists.specs.Below.{sum_below}

pub sum_below-same : (n : ℕ) (f g : ℕ → ℕ) → ((k : ℕ) → k < n → f k ≡ g k) → sum_below n f ≡ sum_below n g
sum_below-same zero f g same = refl
sum_below-same (suc n) f g same =
    omega (arith, sum_below-same n f g (λ k h. same k (omega arith)), same n (omega arith))

pub sum_below-none : (n : ℕ) (f : ℕ → ℕ) → ((k : ℕ) → k < n → f k ≡ 0) → sum_below n f ≡ 0
sum_below-none zero f none = refl
sum_below-none (suc n) f none = omega (arith, sum_below-none n f (λ k h. none k (omega arith)), none n (omega arith))

pub sum_below-add : (n : ℕ) (f g : ℕ → ℕ) → sum_below n (λ k. f k + g k) ≡ sum_below n f + sum_below n g
sum_below-add zero f g = refl
sum_below-add (suc n) f g = omega (arith, sum_below-add n f g)

-- sums that differ in one term
pub sum_below-change : (n i : ℕ) (f g : ℕ → ℕ) → i < n → ((k : ℕ) → k < n → k ≢ i → f k ≡ g k)
    → sum_below n f + g i ≡ sum_below n g + f i
sum_below-change zero i f g h same = absurd (omega arith)
sum_below-change (suc n) i f g h same = elim (cases_eq i n) [
  | inl e ↦
      let rest = sum_below-same n f g (λ k below. same k (omega arith) (λ eq. omega (arith, eq))) in
      omega (arith, rest, ap f e, ap g e)
  | inr d ↦
      let last = same n (omega arith) (λ eq. d (sym eq)) in
      let rest = sum_below-change n i f g (omega (arith, d)) (λ k below other. same k (omega arith) other) in
      omega (arith, rest, last)
]

-- each term is within the sum
pub sum_below-at : (n i : ℕ) (f : ℕ → ℕ) → i < n → f i ≤ sum_below n f
sum_below-at zero i f h = absurd (omega arith)
sum_below-at (suc n) i f h = elim (cases_eq i n) [
  | inl e ↦ omega (arith, ap f e)
  | inr d ↦ omega (arith, sum_below-at n i f (omega (arith, d)))
]

-- and so are two different ones together
pub sum_below-two : (n i j : ℕ) (f : ℕ → ℕ) → i < n → j < n → i ≢ j → f i + f j ≤ sum_below n f
sum_below-two zero i j f hi hj d = absurd (omega arith)
sum_below-two (suc n) i j f hi hj d = elim (cases_eq i n) [
  | inl e ↦ omega (arith, ap f e, sum_below-at n j f (omega (arith, (λ (eq : j ≡ n). d (omega (arith, eq, e))))))
  | inr other ↦ elim (cases_eq j n) [
    | inl e ↦ omega (arith, ap f e, sum_below-at n i f (omega (arith, other)))
    | inr another ↦ omega (arith, sum_below-two n i j f (omega (arith, other)) (omega (arith, another)) d)
  ]
]

-- a sum that isn't 0 has a term that isn't 0
pub sum_below-some : (n : ℕ) (f : ℕ → ℕ) → 0 < sum_below n f → (i : ℕ) × (i < n) × (0 < f i)
sum_below-some zero f h = absurd (omega (arith, h))
sum_below-some (suc n) f h = elim (cases_eq (f n) 0) [
  | inl none ↦
      let found = sum_below-some n f (omega (arith, none)) in
      (found.0, omega (arith, found.1), found.2)
  | inr some ↦ (n, omega arith, omega (arith, some))
]

pub sum_first : (n : ℕ) (f : ℕ → ℕ) → f 0 ≡ 1 → ((k : ℕ) → f (suc k) ≡ 0) → sum_below (suc n) f ≡ 1
sum_first zero f first rest = omega (arith, first)
sum_first (suc n) f first rest = omega (arith, sum_first n f first rest, rest n)

pub sum_below-most : (n : ℕ) (f g : ℕ → ℕ) → ((k : ℕ) → k < n → f k ≤ g k) → sum_below n f ≤ sum_below n g
sum_below-most zero f g h = omega arith
sum_below-most (suc n) f g h = omega (arith, sum_below-most n f g (λ k below. h k (omega (arith, below))), h n (omega arith))

-- one number alone weighs something
pub sum_below-one : (n t x : ℕ) → sum_below n (λ k. if k == t then x else 0) ≤ x
sum_below-one n t x = by_bound (cases_lt t n)
  where
    none : (m : ℕ) → m ≤ t → sum_below m (λ k. if k == t then x else 0) ≡ 0
    none zero h = refl
    none (suc m) h =
        let here : ◌≡◌ {A = ℕ} (if m == t then x else 0) 0 = ap (λ (b : Bool). if b then x else 0) (ne_eqb m t (λ e. omega (arith, e, h))) in
        omega (arith, none m (omega (arith, h)), here)

    some : (m : ℕ) → t < m → sum_below m (λ k. if k == t then x else 0) ≡ x
    some zero h = absurd (omega (arith, h))
    some (suc m) h = elim (cases_eq m t) [
      | inl e ↦
          let here : ◌≡◌ {A = ℕ} (if m == t then x else 0) x = ap (λ (b : Bool). if b then x else 0) (eq-eqb m t e) in
          omega (arith, none m (omega (arith, e)), here)
      | inr d ↦
          let here : ◌≡◌ {A = ℕ} (if m == t then x else 0) 0 = ap (λ (b : Bool). if b then x else 0) (ne_eqb m t d) in
          omega (arith, some m (omega (arith, h, d)), here)
    ]

    by_bound : (t < n) ⊎ (n ≤ t) → sum_below n (λ k. if k == t then x else 0) ≤ x
    by_bound (inl below) = omega (arith, some n below)
    by_bound (inr above) = omega (arith, none n above)

-- no item passes where none is found
pub none_found : {X : Type 0} (test : X → Bool) (xs : List X) → position test xs ≡ None → (i : ℕ) (d : X) → i < length xs → test (slice_index_or xs i d) ≡ false
none_found test xs e i d within = by_place (nat_lt (position_or_len test xs) (length xs)) refl e
  where
    by_place : (there : Bool) → nat_lt (position_or_len test xs) (length xs) ≡ there → (if there then Some (position_or_len test xs) else None) ≡ None → test (slice_index_or xs i d) ≡ false
    by_place true f g = cc
    by_place false f g = elim (cases_lt i (position_or_len test xs)) [
      | inl before ↦ fails_before_first test xs i d before
      | inr after ↦ absurd (false≢true (sym f ∙ lt-ltb (position_or_len test xs) (length xs) (omega (arith, after, within))))
    ]

pub sum_by-zero : {X : Type 0} (f : X → ℕ) (xs : List X) → ((i : ℕ) (d : X) → i < length xs → f (slice_index_or xs i d) ≡ 0) → sum_by f xs ≡ 0
sum_by-zero f [] none = refl
sum_by-zero f (x ∷ rest) none = omega (arith, sum_by-cons f x rest, none 0 x (omega arith), sum_by-zero f rest (λ i d within. none (suc i) d (omega (arith, within))))

-- two places of a list weigh no more than the list
two_in_order : {X : Type 0} (f : X → ℕ) (xs : List X) (i j : ℕ) (d : X) → i < j → j < length xs
    → f (slice_index_or xs i d) + f (slice_index_or xs j d) ≤ sum_by f xs
two_in_order f [] i j d before within = absurd (omega (arith, within))
two_in_order f (x ∷ rest) zero zero d before within = absurd (omega (arith, before))
two_in_order f (x ∷ rest) zero (suc j) d before within = omega (arith, sum_by-cons f x rest, get_or-le-sum_by f rest j d (omega (arith, within)))
two_in_order f (x ∷ rest) (suc i) zero d before within = absurd (omega (arith, before))
two_in_order f (x ∷ rest) (suc i) (suc j) d before within =
    omega (arith, sum_by-cons f x rest, two_in_order f rest i j d (omega (arith, before)) (omega (arith, within)))

pub two_places : {X : Type 0} (f : X → ℕ) (xs : List X) (i j : ℕ) (d : X) → i ≢ j → i < length xs → j < length xs
    → f (slice_index_or xs i d) + f (slice_index_or xs j d) ≤ sum_by f xs
two_places f xs i j d other hi hj = elim (cases_order i j) [
  | inl same ↦ absurd (other same)
  | inr order ↦ elim order [
    | inl before ↦ two_in_order f xs i j d before hj
    | inr after ↦ omega (arith, two_in_order f xs j i d after hi)
  ]
]

-- an item of the list that passes counts
pub counted_some : {X : Type 0} (test : X → Bool) (xs : List X) (x : X) → Contains xs x → test x ≡ true → 1 ≤ count_by test xs
counted_some {X = X} test xs x there e =
    let part = get_or-le-sum_by (λ (y : X). if test y then 1 else 0) xs there.0 x there.1 in
    let one : ◌≡◌ {A = ℕ} (if test (slice_index_or xs there.0 x) then 1 else 0) 1 = ap (λ (b : Bool). if b then 1 else 0) (ap test there.2 ∙ e) in
    omega (arith, part, one)

-- and where there is a count some item passes
pub counted_in : {X : Type 0} (test : X → Bool) (xs : List X) → 1 ≤ count_by test xs → (x : X) × Contains xs x × (test x ≡ true)
counted_in test [] some = absurd (omega (arith, some))
counted_in {X = X} test (first ∷ rest) some = by_test (test first) refl (λ more. counted_in test rest more)
  where
    by_test : (passes : Bool) → test first ≡ passes → (1 ≤ count_by test rest → (x : X) × Contains rest x × (test x ≡ true))
        → (x : X) × Contains (first ∷ rest) x × (test x ≡ true)
    by_test true e again = (first, (0, omega arith, refl), e)
    by_test false e again =
        let none : ◌≡◌ {A = ℕ} (if test first then 1 else 0) 0 = ap (λ (b : Bool). if b then 1 else 0) e in
        let found = again (omega (arith, some, none, sum_by-cons (λ (x : X). if test x then 1 else 0) first rest)) in
        (found.0, (suc found.1.0, omega (arith, found.1.1), found.1.2), found.2)

-- two places that pass count twice
pub counted_twice : {X : Type 0} (test : X → Bool) (xs : List X) (i j : ℕ) (d : X) → i ≢ j → i < length xs → j < length xs
    → test (slice_index_or xs i d) ≡ true → test (slice_index_or xs j d) ≡ true → 2 ≤ count_by test xs
counted_twice {X = X} test xs i j d other hi hj first second =
    let both = two_places (λ (y : X). if test y then 1 else 0) xs i j d other hi hj in
    let one : ◌≡◌ {A = ℕ} (if test (slice_index_or xs i d) then 1 else 0) 1 = ap (λ (b : Bool). if b then 1 else 0) first in
    let two : ◌≡◌ {A = ℕ} (if test (slice_index_or xs j d) then 1 else 0) 1 = ap (λ (b : Bool). if b then 1 else 0) second in
    omega (arith, both, one, two)
