-- Nodes in different processes.
use Rattle.std.specs.Prelude.{◌≡◌, ◌≢◌, ◌<◌, ◌≤◌, ℕ, List, [], ◌∷◌, ◌++◌, Some, length, map, slice_get, filter, IsTrue, Contains}
use mathlib.Core.List.{IsPrefix}
use Rattle.lt_modes.specs.declared.command.Command.{Command}
use Rattle.lt_modes.specs.Fits.{fits, numbers_of}
use Rattle.lt_modes.specs.Script.{ScriptData}
use Rattle.lt_modes.specs.State.{Letter}
use Rattle.lt_spec.specs.NodeMove.{with_commands, AreAt, commands_of, home}
use Rattle.lt_spec.specs.Holdings.{lines_of}
use Rattle.lt_spec.specs.Script.{IsScript}
use Rattle.lt_spec.specs.World.{Logged, start, is_of_node, IsRun, replies_of}
use Rattle.lt_spec.specs.Plays.{Plays}
use Rattle.lt_spec.specs.declared.limits.TheConstants.{MAX_COMMANDS_OF_SERVICE}
use Rattle.lt_merge.specs.Merging.{AreRising}
use Rattle.lt_law_plays.specs.Merged.{Part, Joined, logs_of, merged}
use Rattle.lt_law_merged.specs.JoinedRun.{IsJoinedRun}
use Rattle.lt_law_merged.specs.States.{FewMoves}

-- what can be said of one node by itself: the commands that were appended there, what it made, and of each other node
-- the letters that were brought from it and those that were given out to be carried to it
pub record NodeNow : Type 0 where
  pub commands : List (ℕ × Command)
  pub part : Part
  pub brought : ℕ → List Letter
  pub given : ℕ → List Letter

abbrev pub part_now : NodeNow → Part
part_now n = n.part

-- node x of the first script, to which commands of its own clients were appended: it played by the rules, used first
-- ones of the letters that were brought from each other node, and gave out first ones of those that it sent
pub record IsNodeNow (first : ScriptData) (x : ℕ) (n : NodeNow) : Type 0 where
  pub is_script : IsScript (with_commands first n.commands)
  pub own : AreAt first x n.commands
  pub plays : Plays (with_commands first n.commands) x ((start first).node x)
      n.part.log n.part.used n.part.sent n.part.last
  pub used : (p : ℕ) → p ≢ x → IsPrefix (n.part.used p) (n.brought p)
  pub given : (q : ℕ) → q ≢ x → IsPrefix (n.given q) (n.part.sent q)

-- what was brought to q from p is a first part of what p gave out for q
abbrev pub AreCarried : List NodeNow → Type 0
AreCarried nodes = (p q : ℕ) (a b : NodeNow) → slice_get nodes p ≡ Some a → slice_get nodes q ≡ Some b → p ≢ q
    → IsPrefix (b.brought p) (a.given q)

-- all nodes of the first script, in order, each in a process of its own
pub record AreAllApart (first : ScriptData) (nodes : List NodeNow) : Type 0 where
  pub some : 0 < first.nodes
  pub count : length nodes ≡ first.nodes
  pub each : (x : ℕ) (n : NodeNow) → slice_get nodes x ≡ Some n → IsNodeNow first x n
  pub carried : AreCarried nodes

-- the commands of all, node by node
abbrev pub commands_apart : List NodeNow → List (ℕ × Command)
commands_apart [] = []
commands_apart (n ∷ nodes) = n.commands ++ commands_apart nodes

-- the script with the commands of all
abbrev pub script_apart : ScriptData → List NodeNow → ScriptData
script_apart first nodes = with_commands first (commands_apart nodes)

-- their moves, in order of the stamps
abbrev pub run_apart : ScriptData → List NodeNow → List Logged
run_apart first nodes = merged first.nodes (logs_of (script_apart first nodes) (map part_now nodes)).log

-- what the nodes made joins
abbrev pub ApartJoin : Type 0
ApartJoin = (first : ScriptData) (nodes : List NodeNow) → AreAllApart first nodes
    → Joined (script_apart first nodes) (map part_now nodes)

-- to one run of that script, in which each node's moves are those of its log
pub record IsApartRun (first : ScriptData) (nodes : List NodeNow) (run : List Logged) : Type 0 where
  pub joined : IsJoinedRun (script_apart first nodes) (map part_now nodes) run
  pub is_run : IsRun (script_apart first nodes) run
  pub rising : AreRising run
  pub moves : (x : ℕ) (n : NodeNow) → slice_get nodes x ≡ Some n → filter (is_of_node x) run ≡ n.part.log
  pub commands : (client : ℕ) (n : NodeNow) → slice_get nodes (home first client) ≡ Some n
      → commands_of (script_apart first nodes) client ≡ commands_of (with_commands first n.commands) client

abbrev pub ApartRun : Type 0
ApartRun = (first : ScriptData) (nodes : List NodeNow) → AreAllApart first nodes
    → IsApartRun first nodes (run_apart first nodes)

-- the script with the commands of all is one, where these are no more than a service may have
abbrev pub ApartScript : Type 0
ApartScript = (first : ScriptData) (nodes : List NodeNow) → AreAllApart first nodes
    → length (commands_apart nodes) ≤ MAX_COMMANDS_OF_SERVICE → IsScript (script_apart first nodes)

-- so the replies to a client in that run are those in the log of its node
abbrev pub ApartReplies : Type 0
ApartReplies = (first : ScriptData) (nodes : List NodeNow) → AreAllApart first nodes
    → length (commands_apart nodes) ≤ MAX_COMMANDS_OF_SERVICE
    → (client : ℕ) (n : NodeNow) → slice_get nodes (home first client) ≡ Some n
    → replies_of client (lines_of (run_apart first nodes)) ≡ replies_of client (lines_of n.part.log)

-- and each letter that was sent and not used fits its receiver: one that doesn't was never sent so
abbrev pub ApartLettersFit : Type 0
ApartLettersFit = (first : ScriptData) (nodes : List NodeNow) → AreAllApart first nodes
    → length (commands_apart nodes) ≤ MAX_COMMANDS_OF_SERVICE → FewMoves (map part_now nodes)
    → (p q : ℕ) (a b : NodeNow) (rest : List Letter) (letter : Letter) → p ≢ q
    → slice_get nodes p ≡ Some a → slice_get nodes q ≡ Some b
    → a.part.sent q ≡ b.part.used p ++ rest → Contains rest letter
    → IsTrue (fits (numbers_of first) q b.part.last.clock (b.part.last.set letter.set) letter)

-- letters that are brought by their numbers: where the k-th one that was taken in was the k-th one that was given
-- out, whatever else was lost, came twice or came out of order and was refused, what was taken in is a first part of
-- what was given out
abbrev pub NumberedArePrefix : Type 0
NumberedArePrefix = (brought given : List Letter)
    → ((k : ℕ) (letter : Letter) → slice_get brought k ≡ Some letter → slice_get given k ≡ Some letter)
    → IsPrefix brought given
