-- What is counted of the lines of a node's moves, set by set.
use Rattle.std.specs.Prelude.{◌≡◌, ◌<◌, ◌+◌, ◌*◌, ◌-◌, ◌^◌, ◌==◌, ◌&&◌, ℕ, Bool, true, false, min, List, Option, Some, None, length, count_by, sum_by, slice_index_or}
use Rattle.lt_modes.specs.declared.event.Event.{Event}
use Rattle.lt_modes.specs.declared.event.Event.TheVariants.{Grant, Wait, Try, Unlock, NotHeld, Change, DropAll, Busy, Withdraw, Withdrawn, Void, Withheld, Copy, Freeze, Token}
use Rattle.lt_modes.specs.declared.moves.Step.{Step}
use Rattle.lt_modes.specs.declared.moves.Step.TheVariants.{Act, Take}
use Rattle.lt_spec.specs.Holdings.{lines_of}
use Rattle.lt_spec.specs.World.{Logged}
use Rattle.lt_counts.specs.declared.counted.Counted.{Counted}
use Rattle.lt_counts.specs.declared.counted.Counted.TheVariants.{Grants, Changes, Refusals, Waits, Withdrawals, Copies, Freezes, Tokens}

-- What each line is counted as.

-- a `try` line that got the lock, or didn't
abbrev pub try_counted : Bool → Counted
try_counted true = Grants
try_counted false = Refusals

-- the set of the line, and what it is counted as
abbrev pub counted_as : Event → Option (ℕ × Counted)
counted_as (Grant client set mode) = Some (set, Grants)
counted_as (Try client set mode got) = Some (set, try_counted got)
counted_as (Change client set gives_up mode) = Some (set, Changes)
counted_as (Wait client set mode) = Some (set, Waits)
counted_as (Withdrawn client set mode) = Some (set, Withdrawals)
counted_as (Copy set to client mode) = Some (set, Copies)
counted_as (Freeze set to number modes) = Some (set, Freezes)
counted_as (Token set to epoch) = Some (set, Tokens)
counted_as (Unlock client set mode) = None
counted_as (NotHeld client set mode) = None
counted_as (DropAll client other set count) = None
counted_as (Busy client other set) = None
counted_as (Withdraw client other set got) = None
counted_as (Void client set mode) = None
counted_as (Withheld client set mode) = None

-- its place among the eight numbers of a set
abbrev pub place_among : Counted → ℕ
place_among Grants = 0
place_among Changes = 1
place_among Refusals = 2
place_among Waits = 3
place_among Withdrawals = 4
place_among Copies = 5
place_among Freezes = 6
place_among Tokens = 7

abbrev pub is_counted_so : ℕ → Counted → Option (ℕ × Counted) → Bool
is_counted_so set kind None = false
is_counted_so set kind (Some found) = set == found.0 && place_among kind == place_among found.1

-- the line is counted so in the set
abbrev pub is_counted_as : ℕ → Counted → Event → Bool
is_counted_as set kind line = is_counted_so set kind (counted_as line)

-- how many of these lines are counted so in the set
abbrev pub lines_as : ℕ → Counted → List Event → ℕ
lines_as set kind lines = count_by (is_counted_as set kind) lines

-- how many lines of these moves are
abbrev pub count_of_moves : ℕ → Counted → List Logged → ℕ
count_of_moves set kind moves = lines_as set kind (lines_of moves)

-- how many letters the step takes
abbrev pub letters_by : Step → ℕ
letters_by (Act client) = 0
letters_by (Take from) = 1

-- how many letters these moves take
abbrev pub letters_taken : List Logged → ℕ
letters_taken moves = sum_by (λ (entry : Logged). letters_by entry.made.step) moves

-- What counting does to numbers.

-- the number, and as many more as 64 bits have room for
abbrev pub and_more : ℕ → ℕ → ℕ
and_more number more = number + min more (2 ^ 64 - 1 - number)

-- where the number stands
abbrev pub place_of_count : ℕ → Counted → ℕ
place_of_count set kind = 8 * set + place_among kind

-- the number of the set among these
abbrev pub counted_at : List ℕ → ℕ → Counted → ℕ
counted_at counts set kind = slice_index_or counts (place_of_count set kind) 0

-- to each number that has a place it was added how many of the lines are counted so
pub record AddsLines (lines : List Event) (old new : List ℕ) : Type 0 where
  pub places : length new ≡ length old
  pub each : (set : ℕ) (kind : Counted) → place_of_count set kind < length old
      → counted_at new set kind ≡ and_more (counted_at old set kind) (lines_as set kind lines)

-- so it was with the lines of these moves
abbrev pub AddsMoves : List Logged → List ℕ → List ℕ → Type 0
AddsMoves moves old new = AddsLines (lines_of moves) old new
