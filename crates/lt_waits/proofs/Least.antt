-- The shortest of the rings through each client.
use Rattle.std.proofs.Common.{◌≡◌, ℕ, ◌+◌, ◌<◌, ◌≤◌, List, [], ◌∷◌, length, Option, Some, None, true, IfSome, IsTrue, is_some, refl, arith}
use Rattle.std.proofs.lemmas.Bool.{false≢true}
use Rattle.lt_lists.proofs.Members.{contains_first}
use Rattle.lt_spec.specs.Rings.{Graph, AreBelow, IsRing}
use Rattle.lt_waits.specs.Shortest.{HasRing, IsRingOf, IsShortest}

-- a ring was found that is no longer than any that begins with one of the first so many clients
abbrev pub IsLeastOf : {R : Type 0} → (R → List ℕ) → ℕ → Graph → ℕ → Option R → Type 0
IsLeastOf items n graph many found =
    (start : ℕ) (rest : List ℕ) → start < many → AreBelow n (start ∷ rest) → IsRing graph (start ∷ rest)
    → IsTrue (is_some found) × IfSome found (λ ring. length (items ring) ≤ length rest + 1)

module _ {R : Type 0} (items : R → List ℕ) (n : ℕ) (graph : Graph) where
  pub some_ring : (found : Option R) → is_some found ≡ true → IfSome found (λ ring. IsRingOf n graph (items ring)) → HasRing n graph
  some_ring (Some ring) e is = (items ring, is.below, is.ring)
  some_ring None e is = absurd (false≢true e)

  pub ring_some : (found : Option R) → IsLeastOf items n graph n found → HasRing n graph → is_some found ≡ true
  ring_some found least (ring, below, is) = by_first ring below is
    where
      by_first : (clients : List ℕ) → AreBelow n clients → IsRing graph clients → is_some found ≡ true
      by_first [] under closed = absurd closed
      by_first (a ∷ rest) under closed = (least a rest (under a (contains_first a a rest refl)) under closed).0

  pub is_shortest : (found : Option R) → IsLeastOf items n graph n found → IfSome found (λ ring. IsShortest n graph (items ring))
  is_shortest None least = tt
  is_shortest (Some ring) least = λ other below is. by_first other below is
    where
      by_first : (clients : List ℕ) → AreBelow n clients → IsRing graph clients → length (items ring) ≤ length clients
      by_first [] under closed = absurd closed
      by_first (a ∷ rest) under closed =
          let few = (least a rest (under a (contains_first a a rest refl)) under closed).1 in
          omega (arith, few)
