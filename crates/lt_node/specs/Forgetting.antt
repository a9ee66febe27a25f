-- Commands that a node made and can forget, of which contracts go on to speak.
use Rattle.std.specs.Prelude.{ℕ, List, ◌≡◌, ◌≤◌, ◌<◌, ◌+◌, ◌^◌, ◌++◌, length, take, drop, flat_map}
use Rattle.lt_modes.specs.declared.command.Command.{Command}
use Rattle.lt_modes.specs.Script.{ScriptData}
use Rattle.lt_node.specs.declared.client.KeptCommands.{KeptCommands}
use Rattle.lt_spec.specs.declared.limits.TheConstants.{MAX_COMMANDS_OF_SERVICE}

-- the script without its first commands, so many
abbrev pub without_first : ℕ → ScriptData → ScriptData
without_first k script = record script { commands = drop k script.commands }

-- a script with all its commands, forgotten or not, and how many of them are forgotten
pub record LongScriptData : Type 0 where
  pub whole : ScriptData
  pub gone : ℕ

-- the commands of these scripts, one after the other; each is what was kept when its commands were forgotten
abbrev pub past_commands : List ScriptData → List (ℕ × Command)
past_commands past = flat_map (λ (script : ScriptData). script.commands) past

-- the script with those before its own
abbrev pub with_past : List ScriptData → ScriptData → ScriptData
with_past past kept = record kept { commands = past_commands past ++ kept.commands }

-- so many are forgotten, and a script may have as many as there are in all
pub record IsLongScript (past : List ScriptData) (kept : ScriptData) (gone : ℕ) : Type 0 where
  pub gone_is : length (past_commands past) ≡ gone
  pub few : length (past_commands past ++ kept.commands) ≤ MAX_COMMANDS_OF_SERVICE

-- The same of a client.

-- the commands that were made of these lists, one after the other; each is what was kept when those were forgotten
abbrev pub past_made : List KeptCommands → List Command
past_made past = flat_map (λ (kept : KeptCommands). take kept.made kept.commands.items) past

-- so many are forgotten, and no more of the others were made than there are
pub record HasMade (past : List KeptCommands) (gone : ℕ) (kept : KeptCommands) : Type 0 where
  pub gone_is : length (past_made past) ≡ gone
  pub within : kept.made ≤ length kept.commands.items
  pub few : gone + kept.made < 2 ^ 64
