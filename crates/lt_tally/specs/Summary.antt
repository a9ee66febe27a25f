-- What a run came to, by its own event lines, and how that is told.
use Rattle.std.specs.Prelude.{Bool, ℕ, List, ◌++◌, length, codes, is_some, decimal}
use Rattle.lt_modes.specs.Script.{ScriptData}
use Rattle.lt_lists.specs.Below.{count_below}
use Rattle.lt_spec.specs.World.{Logged}
use Rattle.lt_spec.specs.Holdings.{holdings, wanted, lines_of}
use Rattle.lt_tally.specs.declared.summary.Summary.{Summary}

-- how many locks are held
abbrev pub held_after : ScriptData → List Logged → ℕ
held_after script run = length (holdings script (lines_of run))

-- the client waits for some lock
abbrev pub waits_after : List Logged → ℕ → Bool
waits_after run client = is_some (wanted client (lines_of run))

-- how many clients wait
abbrev pub waiting_after : ScriptData → List Logged → ℕ
waiting_after script run = count_below (length script.clients) (waits_after run)

-- the sizes of the script, and what the run of it came to
abbrev pub summary_of : ScriptData → List Logged → Summary
summary_of script run = record {
  nodes = script.nodes;
  sets = length script.sets;
  clients = length script.clients;
  commands = length script.commands;
  held = held_after script run;
  waiting = waiting_after script run;
}

-- a line with a name and a number
abbrev pub count_line : List ℕ → ℕ → List ℕ
count_line name count = name ++ decimal count ++ codes "\n"

-- the six lines
abbrev pub summary_text : Summary → List ℕ
summary_text s =
    count_line (codes "nodes ") s.nodes
    ++ count_line (codes "sets ") s.sets
    ++ count_line (codes "clients ") s.clients
    ++ count_line (codes "commands ") s.commands
    ++ count_line (codes "held ") s.held
    ++ count_line (codes "waiting ") s.waiting
