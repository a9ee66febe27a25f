-- What is left of a list from a place on begins with what stands there.
use Rattle.std.proofs.Common.{◌≡◌, ◌∙◌, ℕ, zero, suc, ◌+◌, List, [], ◌∷◌, drop, slice_get, Some, ap, arith}

from_place : {X : Type 0} (xs : List X) (k : ℕ) (x : X) → slice_get xs k ≡ Some x → drop k xs ≡ x ∷ drop (suc k) xs
from_place [] k x e = absurd (cc)
from_place (y ∷ ys) zero x e = cc
from_place (y ∷ ys) (suc k) x e = from_place ys k x e

pub drop_get : {X : Type 0} (xs : List X) (k : ℕ) (x : X) → slice_get xs k ≡ Some x → drop k xs ≡ x ∷ drop (k + 1) xs
drop_get xs k x e =
    let next : suc k ≡ k + 1 = omega arith in
    from_place xs k x e ∙ ap (λ n. x ∷ drop n xs) next
