-- A function changed at one number.
use Rattle.std.proofs.Common.{◌≡◌, ℕ, inl, inr, Bool, true, false, refl, sym, ap, ◌∙◌, ◌≢◌, ◌==◌, if◌then◌else◌, eq-eqb, ne_eqb}
use Rattle.std.proofs.Math.Path.{fun_ext}
use Rattle.std.proofs.lemmas.Bool.{cases_eq}
use Rattle.lt_lists.specs.Below.{put}

pub put-same : {X : Type 0} (f : ℕ → X) (q : ℕ) (v : X) → put f q v q ≡ v
put-same f q v = rw (eq-eqb q q refl) refl

pub put-other : {X : Type 0} (f : ℕ → X) (q : ℕ) (v : X) (k : ℕ) → k ≢ q → put f q v k ≡ f k
put-other f q v k d = rw (ne_eqb k q d) refl

pub put-put : {X : Type 0} (f : ℕ → X) (q : ℕ) (u v : X) → put (put f q u) q v ≡ put f q v
put-put f q u v = fun_ext (λ k. by_test k (k == q))
  where
    by_test : (k : ℕ) (here : Bool) → (if here then v else (if here then u else f k)) ≡ (if here then v else f k)
    by_test k true = refl
    by_test k false = refl

pub put-itself : {X : Type 0} (f : ℕ → X) (q : ℕ) → f ≡ put f q (f q)
put-itself f q = fun_ext (λ k. elim (cases_eq k q) [
  | inl e ↦ ap f e ∙ sym (ap (put f q (f q)) e ∙ put-same f q (f q))
  | inr d ↦ sym (put-other f q (f q) k d)
])
