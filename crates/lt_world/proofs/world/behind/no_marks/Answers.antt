use Rattle.std.proofs.Common.{◌≡◌, ◌∙◌, ◌++◌, ℕ, zero, suc, Bool, false, List, [], ap, refl, replicate, slice_index_or, take}
use Rattle.lt_world.proofs.world.behind.no_marks.Goals as goal

none_of : (count place : ℕ) → slice_index_or (replicate count false) place false ≡ false
none_of zero place = refl
none_of (suc count) zero = refl
none_of (suc count) (suc place) = none_of count place

none_behind : (n count place : ℕ) → slice_index_or (take n [] ++ replicate count false) place false ≡ false
none_behind zero count place = none_of count place
none_behind (suc n) count place = none_of count place

none_set : (marks old : List Bool) (n count place : ℕ) → marks ≡ take n old ++ replicate count false → old ≡ [] → slice_index_or marks place false ≡ false
none_set marks old n count place are none =
    ap (λ (l : List Bool). slice_index_or l place false) (are ∙ ap (λ (l : List Bool). take n l ++ replicate count false) none) ∙ none_behind n count place

pub returns-clause-none : goal.returns-clause-none
returns-clause-none c = λ client. none_set c.resize.new.self.items c.new-marks.result.items c.from.result _ client c.in_ok-resize.ensures.items c.new-marks.ensures.items
