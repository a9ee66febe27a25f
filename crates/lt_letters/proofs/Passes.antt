-- Facts of each item of a list, as a loop comes to them.
use Rattle.std.proofs.Common.{◌≡◌, ℕ, zero, suc, ◌+◌, ◌<◌, ◌≤◌, List, [], ◌∷◌, Some, refl, ap, ◌∙◌, arith, length, slice_get, slice_index_or, subst, inl, inr, map}
use Rattle.std.proofs.lemmas.Bool.{cases_lt}
use Rattle.std.specs.List.{AllByRecursion}

-- the first k items pass
abbrev pub FirstPass : {A : Type 0} → (A → Type 0) → ℕ → List A → Type 0
FirstPass {A} P k xs = (i : ℕ) (x : A) → i < k → slice_get xs i ≡ Some x → P x

pub none_pass : {A : Type 0} (P : A → Type 0) (xs : List A) → FirstPass P 0 xs
none_pass P xs i x lt e = absurd (omega (arith, lt))

at_place : {A : Type 0} (xs : List A) (k : ℕ) (x d : A) → slice_get xs k ≡ Some x → slice_index_or xs k d ≡ x
at_place [] k x d e = absurd (cc)
at_place (y ∷ ys) zero x d e = cc
at_place (y ∷ ys) (suc k) x d e = at_place ys k x d e

pub next_passes : {A : Type 0} (P : A → Type 0) (xs : List A) (k : ℕ) (new d : A) → new ≡ slice_index_or xs k d → P new → FirstPass P k xs → FirstPass P (k + 1) xs
next_passes {A = A} P xs k new d is passes first i x lt e = elim (cases_lt i k) [
  | inl below ↦ first i x below e
  | inr above ↦
      let same : i ≡ k = omega (arith, lt, above) in
      let here : new ≡ x = is ∙ at_place xs k x d (subst (λ (j : ℕ). slice_get xs j ≡ Some x) same e) in
      subst (λ (y : A). P y) here passes
]

pub all_pass : {A : Type 0} (P : A → Type 0) (xs : List A) (k : ℕ) → length xs ≤ k → FirstPass P k xs → AllByRecursion P xs
all_pass P [] k le first = tt
all_pass P (x ∷ xs) zero le first = absurd (omega (arith, le))
all_pass P (x ∷ xs) (suc k) le first = (first 0 x (omega arith) refl, all_pass P xs k (omega (arith, le)) (λ i y lt e. first (suc i) y (omega (arith, lt)) e))

pub map_at : {A B : Type 0} (f : A → B) (xs : List A) (k : ℕ) (x : A) → k < length xs → x ≡ slice_index_or xs k x → f x ≡ slice_index_or (map f xs) k (f x)
map_at f [] k x lt e = absurd (omega (arith, lt))
map_at f (y ∷ ys) zero x lt e = ap f e
map_at f (y ∷ ys) (suc k) x lt e = map_at f ys k x (omega (arith, lt)) e
