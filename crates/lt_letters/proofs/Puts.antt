-- Texts that are put one after the other.
use Rattle.std.proofs.Common.{◌≡◌, ◌≤◌, ◌<◌, ◌+◌, ℕ, List, [], ◌∷◌, ◌++◌, Result, Ok, Err, refl, ap, sym, subst, ◌∙◌, append_assoc, arith, length, take, drop, get_or}
use Rattle.std.specs.Prelude.{Vec, vec_capacity, IsErr}
use Rattle.std.specs.Global.{Global}
use Rattle.std.specs.List.{flat_map}
use Rattle.std.proofs.lemmas.List.{length-append}
use Rattle.std.proofs.lemmas.List.Folds.{length-flat_map-take}
use Rattle.lt_letters.specs.Puts.{PutsBytes}

begins : (x a z : List ℕ) → take (length (x ++ a)) z ≡ x ++ a → take (length x) z ≡ x
begins [] a z h = refl
begins (p ∷ x) a [] h = absurd cc
begins (p ∷ x) a (q ∷ z) h =
    let first : q ≡ p = ap (λ (list : List ℕ). get_or list 0 0) h in
    let rest : take (length (x ++ a)) z ≡ x ++ a = ap (λ (list : List ℕ). drop 1 list) h in
    ap (λ (n : ℕ). n ∷ take (length x) z) first ∙ ap (λ (list : List ℕ). p ∷ list) (begins x a z rest)

-- some of a text, and then more of it, for which there was no room
pub part_fails : {E F : Type 0} (some b all : List ℕ) (x y z : Vec ℕ Global) (r : Result (Unit {0}) E) (q : Result (Unit {0}) F) (e : E)
    → length some + length b ≤ length all → y.items ≡ x.items ++ some → vec_capacity x ≤ vec_capacity y
    → PutsBytes b y z r → r ≡ Err e → IsErr q → PutsBytes all x z q
part_fails some b all x y z r (Ok done) e within is room p err bad = absurd cc
part_fails {E = E} some b all x y z r (Err g) e within is room p err bad =
    let failed : PutsBytes {E = E} b y z (Err e) = subst (λ (s : Result (Unit {0}) E). PutsBytes b y z s) err p in (
      begins x.items some z.items (subst (λ (t : List ℕ). take (length t) z.items ≡ t) is failed.0),
      (
        omega (arith, room, failed.1.0),
        omega (arith, room, failed.1.1, within, ap (λ (t : List ℕ). length t) is, length-append x.items some),
      ),
    )

-- the first texts of a list and the next one are no longer than all
pub next_within : {A : Type 0} (f : A → List ℕ) (xs : List A) (i : ℕ) (d x : A) → i < length xs → x ≡ get_or xs i d
    → length (flat_map f (take i xs)) + length (f x) ≤ length (flat_map f xs)
next_within f xs i d x below is =
    subst (λ (y : List ℕ). length (flat_map f (take i xs)) + length y ≤ length (flat_map f xs)) (ap f (sym is)) (length-flat_map-take f xs i d below)

-- four texts, put one after the other
pub four : (out one two three four : List ℕ) (a b c d : List ℕ) → one ≡ out ++ a → two ≡ one ++ b → three ≡ two ++ c → four ≡ three ++ d
    → four ≡ out ++ (a ++ (b ++ (c ++ d)))
four out one two three last a b c d e f g h =
    h ∙ (ap (λ (x : List ℕ). x ++ d) g ∙ (ap (λ (x : List ℕ). (x ++ c) ++ d) f ∙ (ap (λ (x : List ℕ). ((x ++ b) ++ c) ++ d) e
    ∙ (append_assoc ((out ++ a) ++ b) c d ∙ (append_assoc (out ++ a) b (c ++ d) ∙ append_assoc out a (b ++ (c ++ d)))))))

-- two of them
pub two_put : (out one last : List ℕ) (a b : List ℕ) → one ≡ out ++ a → last ≡ one ++ b → last ≡ out ++ (a ++ b)
two_put out one last a b e f = f ∙ (ap (λ (x : List ℕ). x ++ b) e ∙ append_assoc out a b)
