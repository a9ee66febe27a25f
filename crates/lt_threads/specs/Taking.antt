-- What a visit for letters comes to.
use Rattle.std.specs.Prelude.{◌<◌, ◌≤◌, length}
use Rattle.lt_runner.specs.declared.parts.Parts.{Parts}
use Rattle.lt_runner.specs.declared.turning.Turned.{Turned}
use Rattle.lt_runner.specs.declared.turning.Turned.TheVariants.{Moved, Quiet, Full, NoMemory}
use Rattle.lt_runner.specs.Kept.{CouldMove, IsFull}

-- moves were made, for which the log had places left
pub record MovedWithin (a b : Parts) : Type 0 where
  pub more : length a.log.entries < length b.log.entries
  pub within : length b.log.entries ≤ b.limit

-- a letter was taken; or there was none to be taken, or its move found the log full or no memory
abbrev pub TakeEnds : Turned → Parts → Parts → Type 0
TakeEnds Moved a b = MovedWithin a b
TakeEnds Quiet a b = Unit {0}
TakeEnds Full a b = IsFull b
TakeEnds NoMemory a b = CouldMove b
