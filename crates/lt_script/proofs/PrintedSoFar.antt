-- What is printed of the first elements of a list.
use Rattle.std.proofs.Common.{◌≡◌, ◌∙◌, ℕ, ◌+◌, ◌<◌, ◌≤◌, List, [], ◌∷◌, ◌++◌, length, take, get_or, take_all, sym, ap, subst}
use Rattle.std.specs.List.{flat_map}
use Rattle.std.proofs.lemmas.List.{take_more, flat_map_more}

module _ {X : Type 0} (f : X → List ℕ) where
  -- one more element is printed
  pub printed_more : (before so_far next : List ℕ) (xs read : List X) (k : ℕ) (x d : X) → read ≡ xs → k < length read → x ≡ get_or read k d
      → so_far ≡ before ++ flat_map f (take k xs) → next ≡ so_far ++ f x → next ≡ before ++ flat_map f (take (k + 1) xs)
  printed_more before so_far next xs read k x d same inside is printed more =
      let at : x ≡ get_or xs k d = is ∙ ap (λ (l : List X). get_or l k d) same in
      let within : k < length xs = subst (λ (l : List X). k < length l) same inside in
      let further : take k xs ++ x ∷ [] ≡ take (k + 1) xs = ap (λ (y : X). take k xs ++ y ∷ []) at ∙ sym (take_more xs k d within) in
      more ∙ ap (λ (l : List ℕ). l ++ f x) printed ∙ flat_map_more f before (take k xs) x ∙ ap (λ (l : List X). before ++ flat_map f l) further

  -- all elements are printed
  pub printed_all : (before so_far : List ℕ) (xs read : List X) (k : ℕ) → read ≡ xs → length read ≤ k → so_far ≡ before ++ flat_map f (take k xs) → so_far ≡ before ++ flat_map f xs
  printed_all before so_far xs read k same past printed =
      printed ∙ ap (λ (l : List X). before ++ flat_map f l) (take_all k xs (subst (λ (l : List X). length l ≤ k) same past))
