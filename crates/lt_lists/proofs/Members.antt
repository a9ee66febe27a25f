-- What is in a list, and in what a filter or a map makes of it.
use Rattle.std.proofs.Common.{◌≡◌, ℕ, zero, suc, ◌<◌, ◌≤◌, inl, inr, List, [], ◌∷◌, length, Bool, true, false, refl, sym, ap, arith, ◌∙◌, Option, Some, None, ◌⊎◌, if◌then◌else◌, All, Contains, filter, map, slice_index_or, remove, slice_set, filter_map}
use Rattle.std.specs.List.{list_any, cons_option}
use Rattle.std.proofs.lemmas.Bool.{or_cases, or_left, or_right}
use Rattle.std.proofs.lemmas.List.Elements.{Contains-get_or}

-- membership by recursion on the list, which proofs of this file count down
pub contains_first : {X : Type 0} (x y : X) (rest : List X) → x ≡ y → Contains (x ∷ rest) y
contains_first x y rest e = (0, omega arith, e)

pub contains_later : {X : Type 0} (x y : X) (rest : List X) → Contains rest y → Contains (x ∷ rest) y
contains_later x y rest h = (suc h.0, omega (arith, h.1), h.2)

pub contains_cases : {X : Type 0} (x y : X) (rest : List X) → Contains (x ∷ rest) y → (x ≡ y) ⊎ Contains rest y
contains_cases x y rest h = by_place h.0 h.1 h.2
  where
    by_place : (k : ℕ) → k < length (x ∷ rest) → slice_index_or (x ∷ rest) k y ≡ y → (x ≡ y) ⊎ Contains rest y
    by_place zero within e = inl e
    by_place (suc k) within e = inr (k, omega (arith, within), e)

-- a filter leaves what passes
pub contains_filter : {X : Type 0} (test : X → Bool) (xs : List X) (x : X) → Contains xs x → test x ≡ true → Contains (filter test xs) x
contains_filter test [] x h e = absurd (omega (arith, h.1))
contains_filter test (first ∷ rest) x h e =
    by_test (λ later. contains_filter test rest x later e) (test first) refl (contains_cases first x rest h)
  where
    by_test : (Contains rest x → Contains (filter test rest) x) → (passes : Bool) → test first ≡ passes → (first ≡ x) ⊎ Contains rest x
        → Contains (if passes then first ∷ filter test rest else filter test rest) x
    by_test again true f (inl same) = contains_first first x _ same
    by_test again true f (inr later) = contains_later first x _ (again later)
    by_test again false f (inl same) = let no : true ≡ false = sym e ∙ ap test (sym same) ∙ f in cc
    by_test again false f (inr later) = again later

pub contains_filtered : {X : Type 0} (test : X → Bool) (xs : List X) (x : X) → Contains (filter test xs) x → Contains xs x × (test x ≡ true)
contains_filtered test [] x h = absurd (omega (arith, h.1))
contains_filtered test (first ∷ rest) x h = by_test (λ later. contains_filtered test rest x later) (test first) refl h
  where
    by_test : (Contains (filter test rest) x → Contains rest x × (test x ≡ true)) → (passes : Bool) → test first ≡ passes
        → Contains (if passes then first ∷ filter test rest else filter test rest) x → Contains (first ∷ rest) x × (test x ≡ true)
    by_test again true f found = elim (contains_cases first x (filter test rest) found) [
      | inl same ↦ (contains_first first x rest same, ap test (sym same) ∙ f)
      | inr later ↦ (contains_later first x rest (again later).0, (again later).1)
    ]
    by_test again false f found = (contains_later first x rest (again found).0, (again found).1)

-- a search finds what passes
pub list_any-at : {X : Type 0} (test : X → Bool) (xs : List X) (x : X) → Contains xs x → test x ≡ true → list_any test xs ≡ true
list_any-at test [] x h e = absurd (omega (arith, h.1))
list_any-at test (first ∷ rest) x h e = elim (contains_cases first x rest h) [
  | inl same ↦ or_left (test first) (list_any test rest) (ap test same ∙ e)
  | inr later ↦ or_right (test first) (list_any test rest) (list_any-at test rest x later e)
]

pub list_any-which : {X : Type 0} (test : X → Bool) (xs : List X) → list_any test xs ≡ true → (x : X) × Contains xs x × (test x ≡ true)
list_any-which test [] e = cc
list_any-which test (first ∷ rest) e = elim (or_cases (test first) (list_any test rest) e) [
  | inl here ↦ (first, contains_first first first rest refl, here)
  | inr later ↦
      let found = list_any-which test rest later in
      (found.0, contains_later first found.0 rest found.1, found.2)
]

-- a map has what it makes of each item
pub contains_map : {X Y : Type 0} (f : X → Y) (xs : List X) (x : X) → Contains xs x → Contains (map f xs) (f x)
contains_map f [] x h = absurd (omega (arith, h.1))
contains_map f (first ∷ rest) x h = elim (contains_cases first x rest h) [
  | inl same ↦ contains_first (f first) (f x) (map f rest) (ap f same)
  | inr later ↦ contains_later (f first) (f x) (map f rest) (contains_map f rest x later)
]

pub contains_mapped : {X Y : Type 0} (f : X → Y) (xs : List X) (y : Y) → Contains (map f xs) y → (x : X) × Contains xs x × (f x ≡ y)
contains_mapped f [] y h = absurd (omega (arith, h.1))
contains_mapped f (first ∷ rest) y h = elim (contains_cases (f first) y (map f rest) h) [
  | inl same ↦ (first, contains_first first first rest refl, same)
  | inr later ↦ let found = contains_mapped f rest y later in (found.0, contains_later first found.0 rest found.1, found.2)
]

-- nothing is in an empty list
pub none_in : {X : Type 0} {A : Type 0} (x : X) → Contains [] x → A
none_in x h = absurd (omega (arith, h.1))

pub some_equal : {X : Type 0} (a b : X) → Some a ≡ Some b → a ≡ b
some_equal a b e = cc

pub filter_map-which : {X Y : Type 0} (f : X → Option Y) (xs : List X) (y : Y) → Contains (filter_map f xs) y → (x : X) × Contains xs x × (f x ≡ Some y)
filter_map-which f [] y h = absurd (omega (arith, h.1))
filter_map-which {X = X} {Y = Y} f (first ∷ rest) y h = by_first (f first) refl h (λ later. filter_map-which f rest y later)
  where
    by_first : (o : Option Y) → f first ≡ o → Contains (cons_option o (filter_map f rest)) y
        → (Contains (filter_map f rest) y → (x : X) × Contains rest x × (f x ≡ Some y)) → (x : X) × Contains (first ∷ rest) x × (f x ≡ Some y)
    by_first None e found again = let more = again found in (more.0, contains_later first more.0 rest more.1, more.2)
    by_first (Some made) e found again = elim (contains_cases made y (filter_map f rest) found) [
      | inl same ↦ (first, contains_first first first rest refl, e ∙ ap Some same)
      | inr later ↦ let more = again later in (more.0, contains_later first more.0 rest more.1, more.2)
    ]

pub filter_map-at : {X Y : Type 0} (f : X → Option Y) (xs : List X) (x : X) (y : Y) → Contains xs x → f x ≡ Some y → Contains (filter_map f xs) y
filter_map-at f [] x y h e = absurd (omega (arith, h.1))
filter_map-at {X = X} {Y = Y} f (first ∷ rest) x y h e = by_first (f first) refl (λ later. filter_map-at f rest x y later e)
  where
    by_first : (o : Option Y) → f first ≡ o → (Contains rest x → Contains (filter_map f rest) y) → Contains (cons_option o (filter_map f rest)) y
    by_first None none again = elim (contains_cases first x rest h) [
      | inl same ↦ let no : None ≡ Some y = sym none ∙ ap f same ∙ e in cc
      | inr later ↦ again later
    ]
    by_first (Some made) some again = elim (contains_cases first x rest h) [
      | inl same ↦ let one : Some made ≡ Some y = sym some ∙ ap f same ∙ e in contains_first made y (filter_map f rest) (some_equal made y one)
      | inr later ↦ contains_later made y (filter_map f rest) (again later)
    ]

-- a list without members
pub nothing_in : {X : Type 0} (xs : List X) → ((x : X) → Contains xs x → ⊥) → xs ≡ []
nothing_in [] none = refl
nothing_in (x ∷ rest) none = absurd (none x (0, omega arith, refl))

-- what holds of each member holds of all
pub all_of : {X : Type 0} (P : X → Type 0) (xs : List X) → ((x : X) → Contains xs x → P x) → All P xs
all_of P xs h k d within = h (slice_index_or xs k d) (Contains-get_or xs k d within)

-- What stands in a list in which one place was written or left out.

pub contains_set : {X : Type 0} (xs : List X) (k : ℕ) (y x : X) → Contains (slice_set xs k y) x → Contains xs x ⊎ (y ≡ x)
contains_set [] zero y x h = absurd (omega (arith, h.1))
contains_set [] (suc k) y x h = absurd (omega (arith, h.1))
contains_set (first ∷ rest) zero y x h = elim (contains_cases y x rest h) [
  | inl same ↦ inr same
  | inr later ↦ inl (contains_later first x rest later)
]
contains_set (first ∷ rest) (suc k) y x h = elim (contains_cases first x (slice_set rest k y) h) [
  | inl same ↦ inl (contains_first first x rest same)
  | inr later ↦ elim (contains_set rest k y x later) [
    | inl old ↦ inl (contains_later first x rest old)
    | inr new ↦ inr new
  ]
]

pub contains_removed : {X : Type 0} (xs : List X) (k : ℕ) (x : X) → Contains (remove xs k) x → Contains xs x
contains_removed [] zero x h = absurd (omega (arith, h.1))
contains_removed [] (suc k) x h = absurd (omega (arith, h.1))
contains_removed (first ∷ rest) zero x h = contains_later first x rest h
contains_removed (first ∷ rest) (suc k) x h = elim (contains_cases first x (remove rest k) h) [
  | inl same ↦ contains_first first x rest same
  | inr later ↦ contains_later first x rest (contains_removed rest k x later)
]

-- what doesn't stand at the place stays
pub contains_left : {X : Type 0} (xs : List X) (k : ℕ) (x : X) → Contains xs x → (k < length xs → slice_index_or xs k x ≡ x → ⊥)
    → Contains (remove xs k) x
contains_left [] k x h other = absurd (omega (arith, h.1))
contains_left (first ∷ rest) zero x h other = elim (contains_cases first x rest h) [
  | inl same ↦ absurd (other (omega arith) same)
  | inr later ↦ later
]
contains_left (first ∷ rest) (suc k) x h other = elim (contains_cases first x rest h) [
  | inl same ↦ contains_first first x (remove rest k) same
  | inr later ↦ contains_later first x (remove rest k) (contains_left rest k x later (λ within e. other (omega (arith, within)) e))
]

-- no more come out of a list by a filter than stand in it
pub few_filtered : {X Y : Type 0} (f : X → Option Y) (xs : List X) → length (filter_map f xs) ≤ length xs
few_filtered f [] = omega arith
few_filtered {Y = Y} f (x ∷ rest) = by_first (f x) (few_filtered f rest)
  where
    by_first : (o : Option Y) → length (filter_map f rest) ≤ length rest → length (cons_option o (filter_map f rest)) ≤ length (x ∷ rest)
    by_first None h = omega (arith, h)
    by_first (Some y) h = omega (arith, h)
