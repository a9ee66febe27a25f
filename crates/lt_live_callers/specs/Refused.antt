-- Why a command is refused.
use Rattle.std.specs.Prelude.{◌≡◌, ◌<◌, ℕ, Some, length, slice_get}
use Rattle.lt_modes.specs.Script.{ScriptData}
use Rattle.lt_modes.specs.declared.command.Command.{Command}
use Rattle.lt_spec.specs.Script.{HasTargets, IsOfVersion}
use Rattle.lt_live.specs.declared.ends.Session.{Session}
use Rattle.lt_live.specs.Words.{submitted, places}
use Rattle.lt_live.specs.Stations.{equal_share}

-- all that the command names is of the script and of its version, and a client whose locks it drops, or whose ask it
-- gives up, is of the same node
pub record NamesOwn (script : ScriptData) (client : ℕ) (command : Command) : Type 0 where
  pub targets : HasTargets script.sets script.clients client command
  pub modes : IsOfVersion script.version command

-- so does each command that was submitted
abbrev pub NamesAll : Session → Type 0
NamesAll s = (k : ℕ) (command : Command) → slice_get (submitted s) k ≡ Some command → NamesOwn s.script s.client command

-- the session has not submitted all that it may, its ring has a place, and the command names what it may
pub record CanSubmit (s : Session) (command : Command) : Type 0 where
  pub left : length (submitted s) < s.share
  pub place : length (submitted s) < places s
  pub names : NamesOwn s.script s.client command

-- the client's session has not submitted all that each may, and the command names what it may
pub record MayCommand (script : ScriptData) (client : ℕ) (s : Session) (command : Command) : Type 0 where
  pub left : length (submitted s) < equal_share script
  pub names : NamesOwn script client command
