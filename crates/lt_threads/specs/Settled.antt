-- How a crew of workers ends.
use Rattle.std.specs.Prelude.{◌≡◌, ◌<◌, ◌==◌, ℕ, Bool, true, false, List, Some, length, slice_get}
use Rattle.std.specs.List.{list_any}
use Rattle.lt_runner.specs.declared.parts.Parts.{Parts}
use Rattle.lt_runner.specs.declared.turning.Worked.{Worked}
use Rattle.lt_runner.specs.declared.turning.Worked.TheVariants.{Idle, Full, NoMemory}
use Rattle.lt_runner.specs.Kept.{WorkEnds}
use Rattle.lt_threads.specs.Meeting.{SomeCouldMove}

-- where its log isn't full, it is as work leaves it that ends with Idle
abbrev pub IsSettledRunner : ℕ → Parts → Type 0
IsSettledRunner patience p = length p.log.entries < p.limit → WorkEnds Idle patience p

abbrev pub AreSettled : ℕ → List Parts → Type 0
AreSettled patience rs = (k : ℕ) (p : Parts) → slice_get rs k ≡ Some p → IsSettledRunner patience p

-- some log is full
abbrev pub some_full : List Parts → Bool
some_full rs = list_any (λ (p : Parts). length p.log.entries == p.limit) rs

-- Full exactly where some log is full, and Idle exactly where none is; or memory was wanting for a move of some runner
abbrev pub CrewWorked : Worked → ℕ → List Parts → Type 0
CrewWorked Idle patience rs = AreSettled patience rs × (some_full rs ≡ false)
CrewWorked Full patience rs = AreSettled patience rs × (some_full rs ≡ true)
CrewWorked NoMemory patience rs = SomeCouldMove rs
