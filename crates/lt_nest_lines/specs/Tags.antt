-- How a name is found among those of all transactions.
use Rattle.std.specs.Prelude.{◌≡◌, ◌<◌, ◌≤◌, ◌+◌, ◌*◌, ◌%◌, ℕ, false, List, [], ◌∷◌, length, slice_index_or}
use Rattle.lt_nest_lines.specs.Input.{is_word}
use Rattle.lt_nest_lines.specs.Play.{name_at}

-- the tag of a word, the first bytes of which gave n
abbrev pub tag_from : ℕ → List ℕ → ℕ
tag_from n [] = n
tag_from n (byte ∷ rest) = tag_from ((n * 81 + byte) % 1024) rest

-- the tag of a word
unfoldable pub tag_of : List ℕ → ℕ
tag_of word = tag_from 0 word

-- no name before this place is the word
abbrev pub IsNoneBefore : ℕ → List (List ℕ) → List ℕ → Type 0
IsNoneBefore first names word = (k : ℕ) → k < first → k < length names → is_word word (name_at names k) ≡ false

-- of each tag there is a place, before which no name has it
pub record AreFirsts (firsts : List ℕ) (names : List (List ℕ)) : Type 0 where
  pub places : length firsts ≡ 1024
  pub before : (k : ℕ) → k < length names → slice_index_or firsts (tag_of (name_at names k)) 0 ≤ k
