-- Lists of which each number is the same.
use Rattle.std.proofs.Common.{◌≡◌, ◌≢◌, ◌≤◌, ◌<◌, ◌+◌, ◌==◌, ℕ, zero, suc, Bool, true, false, cond, List, [], ◌∷◌, ◌++◌, refl, sym, ap, ◌∙◌, arith, eqb-true, eq-eqb, inl, inr, length, take, slice_index_or}
use Rattle.std.proofs.lemmas.Bool.{cases_eq, ne_eqb}
use Rattle.std.proofs.lemmas.List.{take_more, take_all, length-take-le}
use Rattle.std.proofs.lemmas.Nat.{le_or_l, and_le_l, and_le_r}
use Rattle.std.specs.Int.Bits.{or_zero_l, xor_self, xor_add_and}
use Rattle.std.specs.Prelude.{bit_or, bit_xor}
use Rattle.lt_frames.specs.Sealing.{same_bytes}

pub same_itself : (xs : List ℕ) → same_bytes xs xs ≡ true
same_itself [] = refl
same_itself (x ∷ xs) = ap (λ (t : Bool). cond t (same_bytes xs xs) false) (eq-eqb x x refl) ∙ same_itself xs

pub same_is : (xs ys : List ℕ) → same_bytes xs ys ≡ true → xs ≡ ys
same_is [] [] e = refl
same_is [] (y ∷ ys) e = absurd cc
same_is (x ∷ xs) [] e = absurd cc
same_is (x ∷ xs) (y ∷ ys) e = by_test (x == y) refl e (λ h. same_is xs ys h)
  where
    by_test : (t : Bool) → (x == y) ≡ t → cond t (same_bytes xs ys) false ≡ true → (same_bytes xs ys ≡ true → xs ≡ ys) → x ∷ xs ≡ y ∷ ys
    by_test true is e rest = ap (λ (n : ℕ). n ∷ xs) (eqb-true x y is) ∙ ap (λ (list : List ℕ). y ∷ list) (rest e)
    by_test false is e rest = absurd cc

pub not_same : (xs ys : List ℕ) → same_bytes xs ys ≡ false → xs ≢ ys
not_same xs ys e is = none (sym e ∙ (ap (λ (list : List ℕ). same_bytes list ys) is ∙ same_itself ys))
  where
    none : false ≡ true → ⊥
    none e = cc

-- Comparing by all differences.

or_zero : (d e : ℕ) → (bit_or d e == 0) ≡ cond (d == 0) (e == 0) false
or_zero zero e =
    ap (λ (n : ℕ). n == 0) (or_zero_l e) ∙ ap (λ (t : Bool). cond t (e == 0) false) (sym (eq-eqb 0 0 refl))
or_zero (suc d) e =
    ne_eqb (bit_or (suc d) e) 0 (λ is. omega (arith, le_or_l (suc d) e, is))
    ∙ ap (λ (t : Bool). cond t (e == 0) false) (sym (ne_eqb (suc d) 0 (λ is. omega (arith, is))))

xor_zero : (x y : ℕ) → (bit_xor x y == 0) ≡ (x == y)
xor_zero x y = elim (cases_eq x y) [
  | inl same ↦
      ap (λ (n : ℕ). bit_xor x n == 0) (sym same)
      ∙ (ap (λ (n : ℕ). n == 0) (xor_self x) ∙ sym (eq-eqb x y same))
  | inr differ ↦
      ne_eqb (bit_xor x y) 0 (λ is. differ (omega (arith, is, xor_add_and x y, and_le_l x y, and_le_r x y)))
      ∙ sym (ne_eqb x y differ)
]

same_push : (xs ys : List ℕ) (x y : ℕ) → length xs ≡ length ys
    → same_bytes (xs ++ x ∷ []) (ys ++ y ∷ []) ≡ cond (same_bytes xs ys) (x == y) false
same_push [] [] x y e = by_test (x == y)
  where
    by_test : (t : Bool) → cond t true false ≡ t
    by_test true = refl
    by_test false = refl
same_push [] (b ∷ ys) x y e = absurd (omega (arith, e))
same_push (a ∷ xs) [] x y e = absurd (omega (arith, e))
same_push (a ∷ xs) (b ∷ ys) x y e =
    ap (λ (t : Bool). cond (a == b) t false) (same_push xs ys x y (omega (arith, e))) ∙ by_test (a == b) (same_bytes xs ys)
  where
    by_test : (t u : Bool) → cond t (cond u (x == y) false) false ≡ cond (cond t u false) (x == y) false
    by_test true u = refl
    by_test false u = refl

-- the differences of one more place
pub folds : (one other : List ℕ) (k d : ℕ) → length one ≡ length other → k < length one → (d == 0) ≡ same_bytes (take k one) (take k other)
    → (bit_or d (bit_xor (slice_index_or one k 0) (slice_index_or other k 0)) == 0) ≡ same_bytes (take (k + 1) one) (take (k + 1) other)
folds one other k d size below so_far =
    let x = slice_index_or one k 0 in
    let y = slice_index_or other k 0 in
    let sizes : length (take k one) ≡ length (take k other) = omega (arith, size, below, length-take-le k one (omega (arith, below)), length-take-le k other (omega (arith, below, size))) in
    or_zero d (bit_xor x y)
    ∙ (ap (λ (t : Bool). cond t (bit_xor x y == 0) false) so_far
    ∙ (ap (λ (t : Bool). cond (same_bytes (take k one) (take k other)) t false) (xor_zero x y)
    ∙ (sym (same_push (take k one) (take k other) x y sizes)
    ∙ (ap (λ (list : List ℕ). same_bytes list (take k other ++ y ∷ [])) (sym (take_more one k 0 below))
    ∙ ap (λ (list : List ℕ). same_bytes (take (k + 1) one) list) (sym (take_more other k 0 (omega (arith, size, below))))))))

-- and of all places
pub all_folded : (one other : List ℕ) (k d : ℕ) → length one ≡ length other → length one ≤ k → (d == 0) ≡ same_bytes (take k one) (take k other)
    → (d == 0) ≡ same_bytes one other
all_folded one other k d size past so_far =
    so_far
    ∙ (ap (λ (list : List ℕ). same_bytes list (take k other)) (take_all k one past)
    ∙ ap (λ (list : List ℕ). same_bytes one list) (take_all k other (omega (arith, size, past))))
