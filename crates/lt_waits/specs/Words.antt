-- The words that ask why clients wait.
use Rattle.std.specs.Prelude.{ℕ, List, [], ◌∷◌, Bool, false, codes, bytes_eq}

-- the words are the word `why` alone
abbrev pub asks_why : List (List ℕ) → Bool
asks_why (word ∷ []) = bytes_eq word (codes "why")
asks_why words = false
