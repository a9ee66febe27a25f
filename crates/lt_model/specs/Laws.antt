-- The laws over worlds and runs, as statements.
use Rattle.std.specs.Prelude.{◌≡◌, ◌≢◌, ◌≤◌, ◌<◌, ℕ, List, [], ◌∷◌, Option, Some, None, take, slice_get, IsTrue, All, Contains, Bool, if◌then◌else◌, map, fold}
use Rattle.lt_modes.specs.declared.ask.Ask.{Ask}
use Rattle.lt_modes.specs.declared.mode.Mode.{Mode}
use Rattle.lt_modes.specs.declared.command.Command.TheVariants.{Try, Lock, Unlock, Change, DropAll, Withdraw}
use Rattle.lt_modes.specs.declared.event.Event.{Event}
use Rattle.lt_modes.specs.declared.event.Event.TheVariants.{Try as TryLine}
use Rattle.lt_modes.specs.Granting.{can_grant}
use Rattle.lt_modes.specs.declared.moves.Step.{Step}
use Rattle.lt_modes.specs.declared.moves.Step.TheVariants.{Act, Take}
use Rattle.lt_modes.specs.Script.{ScriptData}
use Rattle.lt_modes.specs.State.{Desk, TokenBody, SetState, Letter, Made, joined}
use Rattle.lt_modes.specs.declared.stamp.Stamp.{Stamp}
use Rattle.lt_modes.specs.declared.command.Command.{Command}
use Rattle.lt_modes.specs.Modes.{bars, held_modes}
use Rattle.lt_modes.specs.SetMove.{finish, locked, tried, unlocked, changed, drop, withdrawn}
use Rattle.lt_modes.specs.Taking.{arrive}
use Rattle.lt_lists.specs.Below.{put}
use Rattle.lt_spec.specs.World.{Logged, World, start, is_enabled, move_stamp, node_move, after, world_after, IsRun, opened, after_made}
use Rattle.lt_spec.specs.NodeMove.{next_command, related, NodeState, NodeMade, node_waits, act_stamp, take_stamp, at_clock, one_made, touched, joined_moves}
use Rattle.lt_spec.specs.Facts.{state_at, token_count, place_count, Comes, DeskIs}
use Rattle.lt_spec.specs.Promised.{IsAside, SameSet, AreStamped, HasExactTries, IsOwnAnswer}
use Rattle.lt_model.specs.Invariant.{Paths, IsServed, WorldInvariant, LinesKept, Timed, AsksStand, SetKept}
use Rattle.lt_model.specs.OnWay.{Between, Acting}

-- the start of each script has the invariant
abbrev pub StartKept : Type 0
StartKept = (script : ScriptData) → 0 < script.nodes → WorldInvariant script (start script)

-- before any line nothing is held, and nobody waits
abbrev pub StartLines : Type 0
StartLines = (script : ScriptData) → LinesKept script [] (start script)

-- each enabled move keeps the paths of each set
abbrev pub PathsKept : Type 0
PathsKept = (script : ScriptData) (w : World) (s : ℕ) → 0 < script.nodes → Paths script w s
    → (q : ℕ) (step : Step) → IsTrue (is_enabled script w q step) → Paths script (after script w q step) s

-- the desk of a set is somewhere: at a node, or in a letter on its way
abbrev pub DeskSomewhere : Type 0
DeskSomewhere = (script : ScriptData) (w : World) (s : ℕ) → Paths script w s → (place : Option ℕ) × (desk : Desk) × DeskIs script w s place desk

-- the token is on its way to a node without the desk that its own firm link names
abbrev pub TokenComes : Type 0
TokenComes = (script : ScriptData) (w : World) (s x : ℕ) → Paths script w s → x < script.nodes → (state_at w s x).desk ≡ None
    → (state_at w s x).firm.node ≡ x → (desk : Desk) × Comes script w s x (TokenBody desk)

-- after each prefix of a run each set has its paths
abbrev pub PathsInRuns : Type 0
PathsInRuns = (script : ScriptData) (run : List Logged) → 0 < script.nodes → IsRun script run
    → (k s : ℕ) → Paths script (world_after script (take k run)) s

-- after each prefix of a run each set has exactly one token
abbrev pub OneToken : Type 0
OneToken = (script : ScriptData) (run : List Logged) → 0 < script.nodes → IsRun script run
    → (k s : ℕ) → token_count script (world_after script (take k run)) s ≡ 1

-- a move leaves each set as it is that it doesn't touch
abbrev pub OthersStay : Type 0
OthersStay = (script : ScriptData) (w : World) (s q : ℕ) (step : Step) → IsAside script w q step s
    → SameSet script w (after script w q step) s

-- after an enabled move the node's clock is that of the move's stamp, and later than before
abbrev pub ClockMoves : Type 0
ClockMoves = (script : ScriptData) (w : World) (q : ℕ) (step : Step) → IsTrue (is_enabled script w q step)
    → (((after script w q step).node q).clock ≡ (move_stamp w q step).clock) × ((w.node q).clock < (move_stamp w q step).clock)

-- the clocks of the other nodes stay
abbrev pub OtherClocksStay : Type 0
OtherClocksStay = (script : ScriptData) (w : World) (q : ℕ) (step : Step) (x : ℕ) → x ≢ q
    → ((after script w q step).node x).clock ≡ (w.node x).clock

-- a move keeps that no letter is later than its sender's clock
abbrev pub StampsKept : Type 0
StampsKept = (script : ScriptData) (w : World) (q : ℕ) (step : Step) → AreStamped w → AreStamped (after script w q step)

-- in a run no letter is later than its sender's clock, and no clock is above the number of moves
abbrev pub ClocksInRuns : Type 0
ClocksInRuns = (script : ScriptData) (run : List Logged) → IsRun script run → (k : ℕ)
    → AreStamped (world_after script (take k run)) × ((x : ℕ) → ((world_after script (take k run)).node x).clock ≤ k)

-- an enabled move keeps that nothing that is kept or said of a set is younger than its clock
abbrev pub TimedKept : Type 0
TimedKept = (script : ScriptData) (w : World) (s : ℕ) → Timed script w s
    → (q : ℕ) (step : Step) → IsTrue (is_enabled script w q step) → Timed script (after script w q step) s

-- and so it is in every run
abbrev pub TimedInRuns : Type 0
TimedInRuns = (script : ScriptData) (run : List Logged) → IsRun script run → (k s : ℕ) → Timed script (world_after script (take k run)) s

-- an enabled move keeps that each unanswered ask of a set stands in one place
abbrev pub StandingKept : Type 0
StandingKept = (script : ScriptData) (w : World) (s : ℕ) → 0 < script.nodes → Paths script w s → AsksStand script w s
    → (q : ℕ) (step : Step) → IsTrue (is_enabled script w q step) → AsksStand script (after script w q step) s

-- and so it is in every run
abbrev pub StandingInRuns : Type 0
StandingInRuns = (script : ScriptData) (run : List Logged) → 0 < script.nodes → IsRun script run
    → (k s : ℕ) → AsksStand script (world_after script (take k run)) s

-- after each prefix of a run an unanswered ask stands in exactly one place
abbrev pub OnePlace : Type 0
OnePlace = (script : ScriptData) (run : List Logged) → 0 < script.nodes → IsRun script run → (k s x : ℕ) (ask : Ask) → x < script.nodes
    → Contains (state_at (world_after script (take k run)) s x).pending ask → place_count script (world_after script (take k run)) s ask ≡ 1

-- an ask that stands anywhere is unanswered at a node of the script, its own, and stands nowhere else
abbrev pub StandsOnce : Type 0
StandsOnce = (script : ScriptData) (w : World) (s : ℕ) (ask : Ask) → AsksStand script w s → 1 ≤ place_count script w s ask
    → (ask.node < script.nodes) × Contains (state_at w s ask.node).pending ask × (place_count script w s ask ≡ 1)

-- an enabled move keeps that no service of a set is left
abbrev pub ServedKept : Type 0
ServedKept = (script : ScriptData) (w : World) (s : ℕ) → IsServed script w s
    → (q : ℕ) (step : Step) → IsTrue (is_enabled script w q step) → IsServed script (after script w q step) s

-- and so it is in every run
abbrev pub ServedInRuns : Type 0
ServedInRuns = (script : ScriptData) (run : List Logged) → IsRun script run → (k s : ℕ) → IsServed script (world_after script (take k run)) s

-- the move of a `try` begins with its line, which tells exactly whether the node can grant the mode in the world before the move
abbrev pub TryIsExact : Type 0
TryIsExact = (script : ScriptData) (w : World) (q client s : ℕ) (mode : Mode) → next_command script (w.node q) client ≡ Some (Try s mode)
    → (rest : List Event) × ((node_move script w q (Act client)).events ≡ TryLine client s mode (can_grant q (state_at w s q) client mode) ∷ rest)

-- and no other line of any move is a `try` line
abbrev pub TriesAreExact : Type 0
TriesAreExact = (script : ScriptData) (w : World) (q : ℕ) (step : Step) → HasExactTries script w q step (node_move script w q step).events

-- in a run each `try` line tells whether the client's own node could grant the mode in the world before its move
abbrev pub TriesInRuns : Type 0
TriesInRuns = (script : ScriptData) (run : List Logged) → IsRun script run → (k : ℕ) (entry : Logged) → slice_get run k ≡ Some entry
    → All (IsOwnAnswer script (world_after script (take k run))) entry.events

-- The invariant of a set between moves and in the middle of one: how a move leads from the one form to the other.

-- the world once node q has set its clock for a move; the letter that it takes is still on its way
abbrev pub begun : World → ℕ → ℕ → World
begun w q clock = record w { node = put w.node q (at_clock clock (w.node q)) }

-- a node at the beginning of its move has made no ask in it, and its charge still is what it holds
pub record HasBegun (clock : ℕ) (s : SetState) : Type 0 where
  pub asks : (ask : Ask) → Contains s.pending ask → ask.stamp.clock < clock
  pub charge : s.desk ≡ None → bars (held_modes s.held) ≡ bars s.charge

-- a move that begins finds the set in its middle form
abbrev pub MoveBegins : Type 0
MoveBegins = (script : ScriptData) (w : World) (s q clock : ℕ) → SetKept script Between w s → q < script.nodes → (w.node q).clock < clock
    → SetKept script (Acting q) (begun w q clock) s × HasBegun clock (state_at w s q)

-- an enabled move keeps each set that it doesn't touch
abbrev pub AsideStays : Type 0
AsideStays = (script : ScriptData) (w : World) (s q : ℕ) (step : Step) → SetKept script Between w s → IsTrue (is_enabled script w q step)
    → IsAside script w q step s → SetKept script Between (after script w q step) s

-- what a node makes in two steps, the world takes in two steps, and what is made of a set in two steps, the node makes in two
-- steps
pub record MovesInSteps : Type 0 where
  pub world : (w : World) (q : ℕ) (first second : NodeMade)
      → after_made q (joined_moves first second) w ≡ after_made q second (after_made q first w)
  pub set : (n : NodeState) (s : ℕ) (first second : Made)
      → touched n s (joined first second) ≡ joined_moves (touched n s first) (touched (touched n s first).node s second)

-- a part of a move: a rule, and the set to whose state it is applied
pub record MovePart : Type 0 where
  pub set : ℕ
  pub rule : SetState → Made

abbrev pub part_on : ℕ → (SetState → Made) → MovePart
part_on s rule = record { set = s; rule = rule }

-- the world once node q has applied the rule
abbrev pub applied : ℕ → World → MovePart → World
applied q w part = after_made q (touched (w.node q) part.set (part.rule (state_at w part.set q))) w

-- first this rule, then the end of the move
abbrev pub with_end : ℕ → Stamp → (SetState → Made) → List MovePart
with_end s stamp rule = part_on s rule ∷ part_on s (finish s stamp) ∷ []

-- the parts of a command, where these clients wait: a `drop` has one for each set of the family
abbrev pub parts_of_command : ScriptData → Stamp → ℕ → (ℕ → Bool) → Option Command → List MovePart
parts_of_command script stamp client is_waiting None = []
parts_of_command script stamp client is_waiting (Some (Lock s mode)) = with_end s stamp (locked s stamp client mode)
parts_of_command script stamp client is_waiting (Some (Try s mode)) = with_end s stamp (tried s stamp client mode)
parts_of_command script stamp client is_waiting (Some (Unlock s mode)) = with_end s stamp (unlocked s client mode)
parts_of_command script stamp client is_waiting (Some (Change s gives_up mode)) = with_end s stamp (changed s stamp client gives_up mode)
parts_of_command script stamp client is_waiting (Some (DropAll other s)) =
    if is_waiting other
    then map (λ k. part_on k (finish k stamp)) (related script s)
    else map (λ k. part_on k (drop k stamp other)) (related script s)
parts_of_command script stamp client is_waiting (Some (Withdraw other s)) = with_end s stamp (withdrawn s client other)

-- the parts of the take of the front letter of this list
abbrev pub parts_of_front : ℕ → NodeState → List Letter → List MovePart
parts_of_front q n [] = []
parts_of_front q n (letter ∷ rest) = with_end letter.set (take_stamp q n letter) (arrive (take_stamp q n letter) letter)

abbrev pub move_parts : ScriptData → World → ℕ → Step → List MovePart
move_parts script w q (Act client) =
    parts_of_command script (act_stamp q (w.node q)) client (node_waits script (w.node q)) (next_command script (w.node q) client)
move_parts script w q (Take p) = parts_of_front q (w.node q) (w.mail p q)

-- the node before the first part of the step: its clock is set, and a command counts as made
abbrev pub at_step : ℕ → Step → NodeState → NodeState
at_step clock (Act client) n = one_made client (at_clock clock n)
at_step clock (Take p) n = at_clock clock n

-- the world before the first part of the step: a letter that is taken is on its way no more
abbrev pub set_out : World → ℕ → Step → World
set_out w q step = record (opened w q step) { node = put w.node q (at_step (move_stamp w q step).clock step (w.node q)) }

-- an enabled move is made of its parts, one after another
abbrev pub MovesAreParts : Type 0
MovesAreParts = (script : ScriptData) (w : World) (q : ℕ) (step : Step) → IsTrue (is_enabled script w q step)
    → after script w q step ≡ fold (applied q) (set_out w q step) (move_parts script w q step)
