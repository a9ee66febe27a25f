-- Letters and their bytes, as laws.
use Rattle.std.specs.Prelude.{◌≡◌, ◌<◌, ℕ, List, ◌++◌, Ok, Err, get_or}
use Rattle.std.specs.List.{flat_map, AllByRecursion}
use mathlib.Core.List.{IsPrefix}
use Rattle.lt_modes.specs.State.{Letter}
use Rattle.lt_letters.specs.declared.fault.Fault.{Fault}
use Rattle.lt_letters.specs.Spelling.{letter_bytes, LetterFits}
use Rattle.lt_letters.specs.Reading.{letter_from, whole_from}
use Rattle.lt_letters.specs.Causes.{IsCause}

abbrev pub IsBytes : List ℕ → Type 0
IsBytes bytes = (i : ℕ) → get_or bytes i 0 < 256

-- what was written is read again, whatever follows
abbrev pub WrittenIsRead : Type 0
WrittenIsRead = (letter : Letter) (rest : List ℕ) → LetterFits letter
    → letter_from (letter_bytes letter ++ rest) ≡ Ok (letter, rest)

-- and what is read was written so, and fits: nothing but the one spelling of a letter is read
abbrev pub ReadIsWritten : Type 0
ReadIsWritten = (bytes rest : List ℕ) (letter : Letter) → IsBytes bytes → letter_from bytes ≡ Ok (letter, rest)
    → (bytes ≡ letter_bytes letter ++ rest) × LetterFits letter

-- where bytes aren't those of one letter, the fault that reading gives has its cause in the bytes alone
abbrev pub FaultsHaveCauses : Type 0
FaultsHaveCauses = (bytes : List ℕ) (fault : Fault) → IsBytes bytes → whole_from bytes ≡ Err fault
    → IsCause fault bytes

-- where the bytes of some letters are first bytes of those of others, the letters are first ones of those
abbrev pub BytesArePrefix : Type 0
BytesArePrefix = (brought given : List Letter) → AllByRecursion LetterFits brought → AllByRecursion LetterFits given
    → IsPrefix (flat_map letter_bytes brought) (flat_map letter_bytes given) → IsPrefix brought given
