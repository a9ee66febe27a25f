-- What nodes write, each in a process of its own, how it is read, and what it is joined to.
use Rattle.std.specs.Prelude.{◌==◌, ◌&&◌, ℕ, Bool, true, not, is_none, List, [], ◌∷◌, ◌++◌, length, map, fold, codes, Option, Some, None, Result, Ok, Err, if◌then◌else◌, bytes_eq, nat_le}
use Rattle.std.specs.List.{list_all}
use Rattle.lt_modes.specs.declared.command.Command.{Command}
use Rattle.lt_modes.specs.declared.event.Event.{Event}
use Rattle.lt_modes.specs.Script.{ScriptData}
use Rattle.lt_modes.specs.Telling.{is_newer}
use Rattle.lt_lists.specs.Below.{any_below, gather_below}
use Rattle.lt_spec.specs.NodeMove.{with_commands}
use Rattle.lt_spec.specs.World.{Logged, is_of_node}
use Rattle.lt_spec.specs.declared.limits.TheConstants.{MAX_COMMANDS}
use Rattle.lt_script.specs.declared.fault.ScriptFault.{ScriptFault}
use Rattle.lt_script.specs.Printing.{print_of}
use Rattle.lt_script.specs.Reading.{read_of}
use Rattle.lt_merge.specs.Merging.{just_made, with_event}
use Rattle.lt_journal.specs.declared.line.Line.{Line}
use Rattle.lt_journal.specs.declared.line.Line.TheVariants.{Version2, Version3, Move as MoveLine, Event as EventLine, Cut}
use Rattle.lt_journal.specs.Grammar.{journal_of}
use Rattle.lt_journal.specs.RunLines.{first_lines, shown_event, text_of}
use Rattle.lt_law_plays.specs.Merged.{merged}
use Rattle.lt_law_apart.specs.Apart.{NodeNow}

-- the text of a script, and that of moves
pub record RunText : Type 0 where
  pub script : List ℕ
  pub moves : List ℕ

-- what node x writes: the script with the commands of its own clients, and its own moves, with the line `cut` and the
-- node at the end
abbrev pub text_of_node : ScriptData → ℕ → NodeNow → RunText
text_of_node first x n = record {
  script = print_of (with_commands first n.commands);
  moves = text_of (with_commands first n.commands) n.part.log (Some x);
}

-- How the text of a node is read.

-- what a node's text says: the script with the commands of its clients, the node, and its moves
pub record NodeSaid : Type 0 where
  pub script : ScriptData
  pub node : ℕ
  pub log : List Logged

-- the lines behind the first ones, which have to be these
abbrev pub moves_behind : List Line → List Line → Option (List Line)
moves_behind [] lines = Some lines
moves_behind (Version2 ∷ []) (Version2 ∷ later) = Some later
moves_behind (Version3 ∷ []) (Version3 ∷ later) = Some later
moves_behind first lines = None

-- what lines of moves and of events say so far, and the node that the line `cut` names, which comes last
pub record SaidSoFar : Type 0 where
  pub log : List Logged
  pub node : Option ℕ

abbrev pub nothing_said : SaidSoFar
nothing_said = record { log = []; node = None }

-- with the line of an event: it is one of the last move's
abbrev pub event_said : List Logged → Event → Option SaidSoFar
event_said [] event = None
event_said (entry ∷ log) event = Some (record { log = with_event (entry ∷ log) event; node = None })

-- with this line; one that is of no move, no event, and no line `cut` says nothing
abbrev pub line_said : List Logged → Line → Option SaidSoFar
line_said log (MoveLine clock x step) = Some (record {
  log = log ++ just_made (record { stamp = record { clock = clock; node = x }; step = step }) ∷ [];
  node = None;
})
line_said log (EventLine event) = event_said log event
line_said log (Cut x) = Some (record { log = log; node = Some x })
line_said log other = None

-- no line stands behind the line `cut`
abbrev pub said_until_cut : List Logged → Option ℕ → Line → Option SaidSoFar
said_until_cut log None line = line_said log line
said_until_cut log (Some x) line = None

abbrev pub said_after : Option SaidSoFar → Line → Option SaidSoFar
said_after None line = None
said_after (Some said) line = said_until_cut said.log said.node line

-- the first of these is later than the move, if there is one
abbrev pub comes_before : Logged → List Logged → Bool
comes_before entry [] = true
comes_before entry (other ∷ others) = is_newer other.made.stamp entry.made.stamp

-- each of them is later than the one before it
abbrev pub is_rising : List Logged → Bool
is_rising [] = true
is_rising (entry ∷ others) = comes_before entry others && is_rising others

-- all moves are the node's, in order of their stamps
abbrev pub are_own : ℕ → List Logged → Bool
are_own x log = list_all (is_of_node x) log && is_rising log

abbrev pub own_said : ScriptData → List Logged → Option ℕ → Option NodeSaid
own_said script log None = None
own_said script log (Some x) = if are_own x log then Some (record { script = script; node = x; log = log }) else None

abbrev pub node_said : ScriptData → Option SaidSoFar → Option NodeSaid
node_said script None = None
node_said script (Some said) = own_said script said.log said.node

abbrev pub lines_said : ScriptData → Option (List Line) → Option NodeSaid
lines_said script None = None
lines_said script (Some lines) = node_said script (fold said_after (Some nothing_said) lines)

abbrev pub said_by_script : Result ScriptData ScriptFault → List ℕ → Option NodeSaid
said_by_script (Err fault) moves = None
said_by_script (Ok script) moves = lines_said script (moves_behind (first_lines script.version) (journal_of script moves))

-- what the text of a node says, if it is one
abbrev pub said_in : RunText → Option NodeSaid
said_in text = said_by_script (read_of text.script) text.moves

-- a move as a journal of this version shows it
abbrev pub shown_entry : ℕ → Logged → Logged
shown_entry version entry = record entry { events = map (shown_event version) entry.events }

-- How the texts of nodes are joined.

abbrev pub said_and : Option NodeSaid → Option (List NodeSaid) → Option (List NodeSaid)
said_and None others = None
said_and (Some said) None = None
said_and (Some said) (Some others) = Some (said ∷ others)

-- what these texts say, if each is that of a node
abbrev pub all_said : List RunText → Option (List NodeSaid)
all_said [] = Some []
all_said (text ∷ texts) = said_and (said_in text) (all_said texts)

-- what the first text of this node says, if there is one
abbrev pub said_of_node : List NodeSaid → ℕ → Option NodeSaid
said_of_node [] x = None
said_of_node (said ∷ others) x = if said.node == x then Some said else said_of_node others x

abbrev pub commands_said : Option NodeSaid → List (ℕ × Command)
commands_said None = []
commands_said (Some said) = said.script.commands

abbrev pub log_said : Option NodeSaid → List Logged
log_said None = []
log_said (Some said) = said.log

-- the script with the commands of all, node by node
abbrev pub whole_script : ScriptData → List NodeSaid → ScriptData
whole_script script all = with_commands script (gather_below script.nodes (λ x. commands_said (said_of_node all x)))

-- their moves, in order of the stamps
abbrev pub whole_run : ScriptData → List NodeSaid → List Logged
whole_run script all = merged script.nodes (λ x. log_said (said_of_node all x))

-- the text has the same script, but for commands
abbrev pub has_script : ScriptData → NodeSaid → Bool
has_script script said = bytes_eq (print_of (with_commands said.script [])) (print_of (with_commands script []))

-- there is one text of each node, all have the same script but for commands, and these are no more than a text may have
abbrev pub are_of_all : ScriptData → List NodeSaid → Bool
are_of_all script all =
    length all == script.nodes
    && (not (any_below script.nodes (λ x. is_none (said_of_node all x)))
    && (list_all (has_script script) all && nat_le (length (whole_script script all).commands) MAX_COMMANDS))

-- the script with the commands of all, and the journal of their moves
abbrev pub text_of_all : ScriptData → List NodeSaid → RunText
text_of_all script all = record {
  script = print_of (whole_script script all);
  moves = text_of (whole_script script all) (whole_run script all) None;
}

abbrev pub joined_said : Option (List NodeSaid) → Option RunText
joined_said None = None
joined_said (Some []) = None
joined_said (Some (first ∷ others)) =
    if are_of_all first.script (first ∷ others) then Some (text_of_all first.script (first ∷ others)) else None

-- what the texts of the nodes are joined to, if they are those of all nodes of one script, in any order
abbrev pub joined_text : List RunText → Option RunText
joined_text texts = joined_said (all_said texts)

-- the text as one input of a checker: the script, the line `journal`, and the moves
abbrev pub joined_input : RunText → List ℕ
joined_input text = text.script ++ (codes "journal" ++ 10 ∷ text.moves)
