-- What contracts see of a run whose lines are counted.
use Rattle.std.specs.Prelude.{List}
use Rattle.lt_modes.specs.declared.event.Event.{Event}
use Rattle.lt_modes.specs.Script.{ScriptData}

-- the script, and the lines of the run
pub record TalliedData : Type 0 where
  pub script : ScriptData
  pub lines : List Event
