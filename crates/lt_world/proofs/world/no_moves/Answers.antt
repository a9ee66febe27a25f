use Rattle.std.proofs.Common.{◌≡◌, ◌∙◌, ◌++◌, ℕ, zero, suc, List, [], ap, refl, replicate, slice_index_or, take}
use Rattle.lt_world.proofs.world.no_moves.Goals as goal

none_of : (count place : ℕ) → slice_index_or (replicate count zero) place zero ≡ zero
none_of zero place = refl
none_of (suc count) zero = refl
none_of (suc count) (suc place) = none_of count place

none_behind : (n count place : ℕ) → slice_index_or (take n [] ++ replicate count zero) place zero ≡ zero
none_behind zero count place = none_of count place
none_behind (suc n) count place = none_of count place

none_made : (moves old : List ℕ) (n count place : ℕ) → moves ≡ take n old ++ replicate count zero → old ≡ [] → slice_index_or moves place zero ≡ zero
none_made moves old n count place are none =
    ap (λ (l : List ℕ). slice_index_or l place zero) (are ∙ ap (λ (l : List ℕ). take n l ++ replicate count zero) none) ∙ none_behind n count place

pub returns-clause-none : goal.returns-clause-none
returns-clause-none c = λ q. none_made c.resize.new.self.items c.new-moves.result.items c.from.result _ q c.in_ok-resize.ensures.items c.new-moves.ensures.items
