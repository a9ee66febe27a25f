-- What a script's fields say.
use Rattle.std.specs.Prelude.{◌≡◌}
use Rattle.std.specs.Arc.{arc_value}
use Rattle.lt_modes.specs.Script.{ScriptData}
use Rattle.lt_script.specs.declared.script.Script.TheInside.{Inside}
use Rattle.lt_script.specs.declared.script.parts.Parts.{Parts}

-- the script that has these fields
abbrev pub script_data : Inside → ScriptData
script_data s = record {
  version = s.version;
  nodes = s.nodes;
  sets = (arc_value s.parts).sets;
  clients = (arc_value s.parts).clients;
  commands = (arc_value s.commands).items;
}

-- two parts declare the same
abbrev pub DeclareTheSame : Parts → Parts → Type 0
DeclareTheSame a b = (b.sets ≡ a.sets) × (b.clients ≡ a.clients)
