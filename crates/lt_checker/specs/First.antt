-- A line that is taken before its end was looked for: that of an event that is due, or of a move.
use Rattle.std.specs.Prelude.{◌≡◌, ◌<◌, ◌≤◌, ℕ, length, List, ◌∷◌, ◌++◌, Bool, true, Option, Some, None}
use denote.Ref.{Bor}
use Rattle.lt_modes.specs.Script.{ScriptData}
use Rattle.lt_text.specs.Text.{is_line_end, HasNone, IsLine}
use Rattle.lt_checker.specs.Checker.{LedTo}
use Rattle.lt_law_journals.specs.Checking.{Place, Reader, Feed, place_after, read_on, fed_piece}

-- the bytes are this line, which can be good, its line end, and then these
pub record BeginsWithLine (bytes line later : List ℕ) : Type 0 where
  pub parts : bytes ≡ line ++ 10 ∷ later
  pub is_line : IsLine line
  pub short : length line ≤ 201

-- a line was found, and it isn't bad; or none was found
abbrev pub goes_on : Option (Bool × Bor (List ℕ)) → Bool
goes_on None = true
goes_on (Some found) = found.0

-- the first line of the bytes, after which these stand, led from a place to the other, or it is bad; or none was found,
-- and they are the same
abbrev pub LedByFirst : ScriptData → Place → List ℕ → Option (Bool × Bor (List ℕ)) → Place → Type 0
LedByFirst script old bytes None new = new ≡ old
LedByFirst script old bytes (Some found) new =
    (line : List ℕ) × BeginsWithLine bytes line found.1.now
    × LedTo (place_after script old line) found.0 new.run new.due

-- the reader took the first line of the bytes, after which these stand; or it is as it was
abbrev pub TakesFirst : ScriptData → Reader → List ℕ → Option (Bor (List ℕ)) → Reader → Type 0
TakesFirst script old bytes None new = new ≡ old
TakesFirst script old bytes (Some later) new =
    (line : List ℕ) × BeginsWithLine bytes line later.now × (new ≡ read_on script old line)

-- with the bytes before these, which end a line, the feed became this
pub record IsFedTo (script : ScriptData) (old : Feed) (bytes later : List ℕ) (new : Feed) : Type 0 where
  pub shorter : length later < length bytes
  pub ends : ¬ HasNone is_line_end bytes
  pub fed : fed_piece script new later ≡ fed_piece script old bytes

-- the first line that ends in the bytes was fed, after which these stand; or none ends there
abbrev pub FeedsLine : ScriptData → Feed → List ℕ → Option (Bor (List ℕ)) → Feed → Type 0
FeedsLine script old bytes None new = HasNone is_line_end bytes × (new ≡ old)
FeedsLine script old bytes (Some later) new = IsFedTo script old bytes later.now new
