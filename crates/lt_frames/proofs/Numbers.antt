-- Frames that were taken in by their numbers.
use Rattle.std.proofs.Common.{◌≡◌, ℕ, zero, suc, ◌+◌, List, [], ◌∷◌, Some, None, refl, sym, ap, subst, ◌∙◌, arith, slice_get}
use mathlib.Core.List.{IsPrefix}
use Rattle.lt_modes.specs.State.{Letter}
use Rattle.lt_frames.specs.declared.frame.Wire.{Wire}
use Rattle.lt_frames.specs.Frames.{Numbered}
use Rattle.lt_frames.specs.Laws.{numbered, IsOneOf, SealedArePrefix}

some_is : {A : Type 0} (x y : A) → Some x ≡ Some y → x ≡ y
some_is x y e = cc

-- the frame at a place is of that wire, and has the letter and the number of that place
at_number : (wire : Wire) (k : ℕ) (letters : List Letter) (j : ℕ) (frame : Numbered) → slice_get (numbered wire k letters) j ≡ Some frame
    → (frame.number ≡ k + j) × (slice_get letters j ≡ Some frame.letter)
at_number wire k [] j frame e = absurd (cc)
at_number wire k (letter ∷ letters) zero frame e =
    let first : Numbered = record { wire = wire; number = k; letter = letter } in
    let same = some_is first frame e in
    (ap (λ (f : Numbered). f.number) (sym same) ∙ omega arith, ap (λ (f : Numbered). Some f.letter) same)
at_number wire k (letter ∷ letters) (suc j) frame e =
    let rest = at_number wire (k + 1) letters j frame e in
    (omega (arith, rest.0), rest.1)

-- each letter has its frame
frame_of : (wire : Wire) (k : ℕ) (letters : List Letter) (j : ℕ) (letter : Letter) → slice_get letters j ≡ Some letter
    → slice_get (numbered wire k letters) j ≡ Some (record { wire = wire; number = k + j; letter = letter })
frame_of wire k [] j letter e = absurd (cc)
frame_of wire k (x ∷ letters) zero letter e =
    let place : k ≡ k + 0 = omega arith in
    ap (λ (l : Letter). Some (record { wire = wire; number = k; letter = l })) (some_is x letter e)
    ∙ ap (λ (n : ℕ). Some (record { wire = wire; number = n; letter = letter })) place
frame_of wire k (x ∷ letters) (suc j) letter e =
    let place : (k + 1) + j ≡ k + suc j = omega arith in
    frame_of wire (k + 1) letters j letter e ∙ ap (λ (n : ℕ). Some (record { wire = wire; number = n; letter = letter })) place

by_place : (taken given : List Letter) → ((k : ℕ) (letter : Letter) → slice_get taken k ≡ Some letter → slice_get given k ≡ Some letter)
    → IsPrefix taken given
by_place [] given h = (given, refl)
by_place (x ∷ xs) [] h = absurd (none (h 0 x refl))
  where
    none : None ≡ Some x → ⊥
    none e = cc
by_place (x ∷ xs) (y ∷ ys) h =
    let rest = by_place xs ys (λ k letter e. h (suc k) letter e) in
    (rest.0, ap (λ (list : List Letter). x ∷ list) rest.1 ∙ ap (λ (letter : Letter). letter ∷ ys) (sym (some_is y x (h 0 x refl))))

pub sealed_are_prefix : SealedArePrefix
sealed_are_prefix key given taken bear alone wire = by_place (taken wire) (given wire) at
  where
    at : (k : ℕ) (letter : Letter) → slice_get (taken wire) k ≡ Some letter → slice_get (given wire) k ≡ Some letter
    at k letter e =
        let f : Numbered = record { wire = wire; number = 0 + k; letter = letter } in
        let own : IsOneOf taken f = (k, frame_of wire 0 (taken wire) k letter e) in
        let g = bear f own in
        let same = alone f g.0 own g.1.0 g.1.1 in
        let there : IsOneOf given f = subst (λ (x : Numbered). IsOneOf given x) same g.1.0 in
        let place = at_number wire 0 (given wire) there.0 f there.1 in
        let is : there.0 ≡ k = omega (arith, place.0) in
        subst (λ (i : ℕ). slice_get (given wire) i ≡ Some letter) is place.1
