-- Lines of a text, words and fields of a line, and what is written of them.
use Rattle.std.specs.Prelude.{◌≡◌, ℕ, ◌<◌, ◌-◌, Bool, true, false, ◌||◌, ◌&&◌, not, List, [], ◌∷◌, ◌++◌, length, take, map, filter, slice_index, Option, Some, None, ◌==◌, nat_lt, if◌then◌else◌, flat_map}
use Rattle.std.specs.List.{AllByRecursion}
use denote.Ref.{Bor}

-- a line feed
abbrev pub is_line_end : ℕ → Bool
is_line_end byte = byte == 10

-- a space
abbrev pub is_space : ℕ → Bool
is_space byte = byte == 32

-- a space or a tab
abbrev pub is_blank : ℕ → Bool
is_blank byte = byte == 32 || byte == 9

-- any other byte
abbrev pub is_word_byte : ℕ → Bool
is_word_byte byte = not (is_blank byte)

-- the pieces with the byte at the front of the first one
abbrev pub put_front : ℕ → List (List ℕ) → List (List ℕ)
put_front byte [] = (byte ∷ []) ∷ []
put_front byte (piece ∷ pieces) = (byte ∷ piece) ∷ pieces

-- what stands between the bytes that end a piece; nothing stands after the last of them if it is the last byte
unfoldable pub cut_at : (ℕ → Bool) → List ℕ → List (List ℕ)
cut_at ends [] = []
cut_at ends (byte ∷ bytes) = if ends byte then [] ∷ cut_at ends bytes else put_front byte (cut_at ends bytes)

-- a line without the carriage return at its end, if there is one
abbrev pub without_return : List ℕ → List ℕ
without_return line = if nat_lt 0 (length line) && slice_index line (length line - 1) == 13 then take (length line - 1) line else line

-- the lines of a text, without their line ends
unfoldable pub lines : List ℕ → List (List ℕ)
lines bytes = map without_return (cut_at is_line_end bytes)

abbrev pub is_filled : List ℕ → Bool
is_filled [] = false
is_filled (byte ∷ bytes) = true

-- the words of a line: what stands between blanks
unfoldable pub words : List ℕ → List (List ℕ)
words line = filter is_filled (cut_at is_blank line)

-- what stands before the first space
unfoldable pub before_space : List ℕ → List ℕ
before_space [] = []
before_space (byte ∷ bytes) = if is_space byte then [] else byte ∷ before_space bytes

-- what stands after each space, up to the next one
unfoldable pub later_fields : List ℕ → List (List ℕ)
later_fields [] = []
later_fields (byte ∷ bytes) = if is_space byte then before_space bytes ∷ later_fields bytes else later_fields bytes

-- the fields of a line: what stands between its spaces, an empty field between two spaces side by side
abbrev pub fields : List ℕ → List (List ℕ)
fields line = before_space line ∷ later_fields line

-- the first part and those of the rest, if there is a part
abbrev pub first_and : (List ℕ → List (List ℕ)) → Option (Bor (List ℕ) × Bor (List ℕ)) → List (List ℕ)
first_and parts None = []
first_and parts (Some found) = found.0.now ∷ parts found.1.now

-- less is left than there was
abbrev pub LeavesLess : List ℕ → Option (Bor (List ℕ) × Bor (List ℕ)) → Type 0
LeavesLess bytes None = Unit {0}
LeavesLess bytes (Some found) = length found.1.now < length bytes

-- the first field and those of the rest, if there is one
abbrev pub first_and_fields : List ℕ → Option (Bor (List ℕ)) → List (List ℕ)
first_and_fields field None = field ∷ []
first_and_fields field (Some rest) = field ∷ fields rest.now

-- the lines, each with a line feed after it
abbrev pub text : List (List ℕ) → List ℕ
text [] = []
text (line ∷ rest) = line ++ 10 ∷ text rest

-- a word with the space before it
abbrev pub after_space : List ℕ → List ℕ
after_space word = 32 ∷ word

-- what follows a word: a space before each further word
abbrev pub each_after_space : List (List ℕ) → List ℕ
each_after_space words = flat_map after_space words

-- the words with one space between two
abbrev pub spaced : List (List ℕ) → List ℕ
spaced [] = []
spaced (word ∷ rest) = word ++ each_after_space rest

-- no byte of the list is one of these
abbrev pub HasNone : (ℕ → Bool) → List ℕ → Type 0
HasNone is_one bytes = AllByRecursion (λ byte. is_one byte ≡ false) bytes

-- no line feed is in it, and no carriage return at its end
abbrev pub IsLine : List ℕ → Type 0
IsLine line = HasNone is_line_end line × (without_return line ≡ line)

-- it isn't empty, and no blank is in it
abbrev pub IsWord : List ℕ → Type 0
IsWord word = (is_filled word ≡ true) × HasNone is_blank word

-- no space is in it
abbrev pub IsField : List ℕ → Type 0
IsField field = HasNone is_space field
