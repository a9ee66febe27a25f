-- Words at the front of a block.
use Rattle.std.proofs.Common.{◌≡◌, ◌∙◌, ℕ, ◌+◌, ◌<◌, List, [], ◌∷◌, ◌++◌, ap, sym, take, length, slice_set}
use Rattle.std.proofs.lemmas.List.{take-set, take_more_set}
use Rattle.std.proofs.Math.Seq.{take-append-add}

-- of a text and the block behind it, the text and the front of the block
pub cut : (old block : List ℕ) (len count : ℕ) → len ≡ length old → take (len + count) (old ++ block) ≡ old ++ take count block
cut old block len count e = ap (λ (n : ℕ). take (n + count) (old ++ block)) e ∙ take-append-add old block count

-- the front of the block in which words stand, and a line end behind them
pub front_kept : (block words : List ℕ) (len : ℕ) → take len block ≡ words → take len (slice_set block len 10) ≡ words
front_kept block words len e = take-set block len 10 ∙ e

-- and with the line end
pub line_kept : (block : List ℕ) (len : ℕ) → len < length block → take (len + 1) (slice_set block len 10) ≡ take len (slice_set block len 10) ++ 10 ∷ []
line_kept block len inside = take_more_set block len 10 inside ∙ ap (λ (bytes : List ℕ). bytes ++ 10 ∷ []) (sym (take-set block len 10))
