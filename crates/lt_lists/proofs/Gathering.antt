-- What is gathered from lists by number is what they have.
use Rattle.std.proofs.Common.{◌≡◌, ℕ, zero, suc, ◌<◌, inl, inr, List, [], refl, ap, subst, arith, ◌∙◌, ◌++◌, Contains}
use Rattle.std.proofs.lemmas.Bool.{cases_eq}
use Rattle.std.proofs.lemmas.List.Elements.{Contains-append_left, Contains-append_right, Contains-append_cases}
use Rattle.lt_lists.specs.Below.{gather_below}

pub gathered-which : {X : Type 0} (n : ℕ) (f : ℕ → List X) (x : X) → Contains (gather_below n f) x → (k : ℕ) × (k < n) × Contains (f k) x
gathered-which zero f x h = absurd (omega (arith, h.1))
gathered-which (suc n) f x h = elim (Contains-append_cases (gather_below n f) (f n) x h) [
  | inl before ↦ let found = gathered-which n f x before in (found.0, omega (arith, found.1), found.2)
  | inr last ↦ (n, omega arith, last)
]

pub gathered-at : {X : Type 0} (n : ℕ) (f : ℕ → List X) (k : ℕ) (x : X) → k < n → Contains (f k) x → Contains (gather_below n f) x
gathered-at zero f k x below h = absurd (omega (arith, below))
gathered-at (suc n) f k x below h = elim (cases_eq k n) [
  | inl last ↦ Contains-append_right (gather_below n f) (f n) x (subst (λ (i : ℕ). Contains (f i) x) last h)
  | inr other ↦ Contains-append_left (gather_below n f) (f n) x (gathered-at n f k x (omega (arith, below, other)) h)
]

-- nothing is gathered from empty lists
pub gather_none : {X : Type 0} (n : ℕ) (f : ℕ → List X) → ((k : ℕ) → f k ≡ []) → gather_below n f ≡ []
gather_none zero f none = refl
gather_none (suc n) f none = ap (λ xs. xs ++ f n) (gather_none n f none) ∙ none n

-- the same is gathered from the same lists
pub gather_same : {X : Type 0} (n : ℕ) (f g : ℕ → List X) → ((k : ℕ) → f k ≡ g k) → gather_below n f ≡ gather_below n g
gather_same zero f g same = refl
gather_same (suc n) f g same = ap (λ l. l ++ f n) (gather_same n f g same) ∙ ap (λ l. gather_below n g ++ l) (same n)
