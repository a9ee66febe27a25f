-- Why bytes are no letter.
use Rattle.std.specs.Prelude.{◌≡◌, ◌<◌, ℕ, List, ◌++◌, length}
use Rattle.lt_modes.specs.State.{Letter}
use Rattle.lt_letters.specs.declared.fault.Fault.{Fault}
use Rattle.lt_letters.specs.declared.fault.Fault.TheVariants.{Short, Unknown, TooMany, Trailing}
use Rattle.lt_letters.specs.Spelling.{letter_bytes, LetterFits}

-- they are the bytes of a letter
abbrev pub AreOfLetter : List ℕ → Type 0
AreOfLetter bytes = (letter : Letter) × ((bytes ≡ letter_bytes letter) × LetterFits letter)

-- they are the first bytes of a letter, and not all
abbrev pub BeginLetter : List ℕ → Type 0
BeginLetter bytes = (letter : Letter) × ((more : List ℕ)
    × ((bytes ++ more ≡ letter_bytes letter) × ((0 < length more) × LetterFits letter)))

-- whatever follows them, no letter stands there
abbrev pub AreNoLetter : List ℕ → Type 0
AreNoLetter bytes = (letter : Letter) (more rest : List ℕ) → LetterFits letter
    → bytes ++ more ≡ letter_bytes letter ++ rest → ⊥

-- a letter, and bytes after it
abbrev pub FollowLetter : List ℕ → Type 0
FollowLetter bytes = (letter : Letter) × ((rest : List ℕ)
    × ((bytes ≡ letter_bytes letter ++ rest) × ((0 < length rest) × LetterFits letter)))

abbrev pub IsCause : Fault → List ℕ → Type 0
IsCause Short bytes = BeginLetter bytes
IsCause Unknown bytes = AreNoLetter bytes
IsCause TooMany bytes = AreNoLetter bytes
IsCause Trailing bytes = FollowLetter bytes
