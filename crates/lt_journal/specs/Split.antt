-- Where an input is cut into a script and a journal.
use Rattle.std.specs.Prelude.{◌≡◌, ◌≤◌, drop, List, [], ◌∷◌, ℕ, zero, suc, ◌+◌, ◌-◌, Bool, false, Option, Some, None, if◌then◌else◌, codes, length, position, bytes_eq}
use Rattle.std.specs.List.{position_from}
use Rattle.lt_text.specs.Text.{lines, words, is_line_end}
use Rattle.lt_journal.specs.declared.splitting.Parts.{Parts}

-- `journal` is the only word
abbrev pub says_journal : List (List ℕ) → Bool
says_journal (word ∷ []) = bytes_eq word (codes "journal")
says_journal words = false

-- `journal` is the only word of the line
abbrev pub is_journal_line : List ℕ → Bool
is_journal_line line = says_journal (words line)

-- what stands after the first line with its line end
unfoldable pub after_first_line : List ℕ → List ℕ
after_first_line [] = []
after_first_line (byte ∷ bytes) = if is_line_end byte then bytes else after_first_line bytes

-- what stands after so many lines with their line ends
abbrev pub after_lines : ℕ → List ℕ → List ℕ
after_lines zero bytes = bytes
after_lines (suc n) bytes = after_first_line (after_lines n bytes)

-- the place where the line with this number, from 0, begins
abbrev pub place_of_line : List ℕ → ℕ → ℕ
place_of_line bytes k = length bytes - length (after_lines k bytes)

-- the parts of an input with the line `journal` at this place among its lines
abbrev pub parts_at : List ℕ → Option ℕ → Parts
parts_at bytes None = record { script = length bytes; journal = length bytes; lines = length (lines bytes) }
parts_at bytes (Some k) = record { script = place_of_line bytes k; journal = place_of_line bytes (k + 1); lines = k + 1 }

-- the parts of an input: the script ends before the first line whose only word is `journal`, and the journal begins after it
abbrev pub input_parts : List ℕ → Parts
input_parts bytes = parts_at bytes (position is_journal_line (lines bytes))

-- so many lines stand before this place, which begins a line, and none of them is `journal`
pub record ArePassed (bytes : List ℕ) (from count : ℕ) : Type 0 where
  pub within : from ≤ length bytes
  pub few : count ≤ from
  pub passed : drop from bytes ≡ after_lines count bytes
  pub none : position is_journal_line (lines bytes) ≡ position_from is_journal_line count (lines (drop from bytes))
  pub count_is : count + length (lines (drop from bytes)) ≡ length (lines bytes)
