-- What is promised of a run of a script (at the end), and the words in which it is promised.
use Rattle.std.specs.Prelude.{◌≡◌, ℕ, List, length, Contains, IsTrue, IsFalse, ◌≢◌, ◌==◌, ◌≤◌, [], ◌∷◌, Option, Some, None, All, filter, ◌<◌, zero, suc, ◌++◌, if◌then◌else◌, take, Bool, drop, ◌↔◌, true, slice_get, false}
use Rattle.lt_modes.specs.declared.mode.Mode.{Mode}
use Rattle.lt_modes.specs.declared.event.Event.{Event}
use Rattle.lt_modes.specs.Modes.{conflicts, count_of}
use Rattle.lt_modes.specs.Script.{ScriptData}
use Rattle.lt_modes.specs.declared.command.Command.{Command}
use Rattle.lt_modes.specs.declared.command.Command.TheVariants.{Lock, Unlock, Try, Change, DropAll, Withdraw}
use Rattle.lt_modes.specs.declared.moves.Step.{Step}
use Rattle.lt_modes.specs.declared.moves.Step.TheVariants.{Act, Take}
use Rattle.lt_modes.specs.State.{SetState, Body, Letter, Desk}
use Rattle.lt_modes.specs.declared.stamp.Stamp.{Stamp}
use Rattle.lt_modes.specs.Serving.{queue_of, ask_at, next_service, serve_one, serve, is_gone}
use Rattle.lt_modes.specs.SetMove.{locked, tried, unlocked, changed, dropped, withdrawn, finish}
use Rattle.lt_modes.specs.Taking.{arrive}
use Rattle.lt_modes.specs.declared.event.Event.TheVariants.{Try as TryLine}
use Rattle.lt_modes.specs.Freezing.{frozen_by}
use Rattle.lt_modes.specs.Granting.{can_grant}
use Rattle.lt_modes.specs.declared.ask.Ask.{Ask}
use Rattle.lt_modes.specs.declared.parts.Row.{Row}
use Rattle.lt_spec.specs.NodeMove.{home, has_command, related, next_command, NodeState, node_waits, act_stamp, take_stamp}
use Rattle.lt_spec.specs.Holdings.{Holding, holdings, waits_for, waits_behind_void, WaitsFor, holding, lines_of, IsLawful, times_held, HasOpenWait, HasWaiter, IsBarredByLines}
use Rattle.lt_spec.specs.Rings.{AreBelow, IsRing}
use Rattle.lt_spec.specs.World.{World, is_waiting, Logged, is_enabled, move_stamp, after, world_after, IsRun, is_at_rest, anyone_waits}
use Rattle.lt_spec.specs.Facts.{state_at, weight, token_count, place_count, IsFirstWaiter, IsLedToQueue, DeskIs}

-- Which clients have ended, and hold up others; clients that wait in a ring.

-- the client has made all its commands, and waits for nothing
pub record HasEnded (script : ScriptData) (w : World) (client : ℕ) : Type 0 where
  pub waits : IsFalse (is_waiting script w client)
  pub commands : IsFalse (has_command script (w.node (home script client)) client)

-- by the lines the client holds a lock with which a mode conflicts that the waiter waits for
pub record HoldsUp (script : ScriptData) (lines : List Event) (w : World) (waiter client : ℕ) : Type 0 where
  pub lock : Holding
  pub mode : Mode
  pub held : Contains (holdings script lines) lock
  pub holder : lock.client ≡ client
  pub wanted : WaitsFor script w waiter lock.set mode
  pub conflict : IsTrue (conflicts mode lock.mode)

-- clients of the script wait in a ring
abbrev pub WaitInRing : ScriptData → World → Type 0
WaitInRing script w = (ring : List ℕ) × AreBelow (length script.clients) ring × IsRing (waits_for script w) ring

-- a client of the script waits behind an ask that another one gave up
abbrev pub WaitBehindVoid : ScriptData → World → Type 0
WaitBehindVoid script w = (client other : ℕ) × (client < length script.clients) × (other < length script.clients)
    × IsTrue (waits_behind_void script w client other)

-- Which sets a move touches, and what stays the same of a set that it doesn't.

-- the sets of a command: of a `drop` the whole family
abbrev pub sets_of_command : ScriptData → Option Command → List ℕ
sets_of_command script None = []
sets_of_command script (Some (Lock s mode)) = s ∷ []
sets_of_command script (Some (Try s mode)) = s ∷ []
sets_of_command script (Some (Unlock s mode)) = s ∷ []
sets_of_command script (Some (Change s gives_up mode)) = s ∷ []
sets_of_command script (Some (DropAll other s)) = related script s
sets_of_command script (Some (Withdraw other s)) = s ∷ []

abbrev pub sets_of_front : List Letter → List ℕ
sets_of_front [] = []
sets_of_front (letter ∷ rest) = letter.set ∷ []

-- the sets that the step touches: those of the command, or that of the letter
abbrev pub sets_of_step : ScriptData → World → ℕ → Step → List ℕ
sets_of_step script w q (Act client) = sets_of_command script (next_command script (w.node q) client)
sets_of_step script w q (Take p) = sets_of_front (w.mail p q)

-- the step doesn't touch the set
abbrev pub IsAside : ScriptData → World → ℕ → Step → ℕ → Type 0
IsAside script w q step s = All (λ touched. touched ≢ s) (sets_of_step script w q step)

-- the letters of the set
abbrev pub of_set : ℕ → List Letter → List Letter
of_set s letters = filter (λ (letter : Letter). letter.set == s) letters

-- the set is in the later world as it was: at each node, on each way, with the same token moves and counts
pub record SameSet (script : ScriptData) (w later : World) (s : ℕ) : Type 0 where
  pub states : (x : ℕ) → state_at later s x ≡ state_at w s x
  pub letters : (p q : ℕ) → of_set s (later.mail p q) ≡ of_set s (w.mail p q)
  pub went : later.went s ≡ w.went s
  pub weights : (of_state : SetState → ℕ) (of_body : Body → ℕ)
      → weight script later s of_state of_body ≡ weight script w s of_state of_body

-- each letter has the stamp of a move of its sender, no later than that node's clock
abbrev pub AreStamped : World → Type 0
AreStamped w = (p q : ℕ) (letter : Letter) → Contains (w.mail p q) letter
    → (letter.stamp.node ≡ p) × (letter.stamp.clock ≤ (w.node p).clock)

-- The services of a move: at each one, the state that it finds and the place of the ask that it serves.

-- a service finds this state, and serves the ask at this place of the queue
pub record Service : Type 0 where
  pub state : SetState
  pub place : ℕ

abbrev pub services_then : (SetState → List Service) → ℕ → Stamp → SetState → Option ℕ → List Service
services_then again set stamp s None = []
services_then again set stamp s (Some k) = record { state = s; place = k } ∷ again (serve_one set stamp k s).state

abbrev pub services_up_to : ℕ → ℕ → Stamp → SetState → List Service
services_up_to zero set stamp s = []
services_up_to (suc n) set stamp s = services_then (services_up_to n set stamp) set stamp s (next_service stamp.node s)

-- the services of which `serve` consists
abbrev pub services : ℕ → Stamp → SetState → List Service
services set stamp s = services_up_to (length (queue_of s)) set stamp s

abbrev pub lines_of_services : ℕ → Stamp → List Service → List Event
lines_of_services set stamp [] = []
lines_of_services set stamp (service ∷ rest) =
    (serve_one set stamp service.place service.state).events ++ lines_of_services set stamp rest

-- what the command has made of a set that it touches, before the end of the move
abbrev pub made_by_command : ScriptData → Stamp → ℕ → Option Command → NodeState → ℕ → SetState
made_by_command script stamp client None n s = n.set s
made_by_command script stamp client (Some (Lock set mode)) n s = (locked s stamp client mode (n.set s)).state
made_by_command script stamp client (Some (Try set mode)) n s = (tried s stamp client mode (n.set s)).state
made_by_command script stamp client (Some (Unlock set mode)) n s = (unlocked s client mode (n.set s)).state
made_by_command script stamp client (Some (Change set gives_up mode)) n s = (changed s stamp client gives_up mode (n.set s)).state
made_by_command script stamp client (Some (DropAll other set)) n s =
    if node_waits script n other then n.set s else dropped other (n.set s)
made_by_command script stamp client (Some (Withdraw other set)) n s = (withdrawn s client other (n.set s)).state

abbrev pub made_by_front : ℕ → List Letter → NodeState → ℕ → SetState
made_by_front q [] n s = n.set s
made_by_front q (letter ∷ rest) n s = (arrive (take_stamp q n letter) letter (n.set s)).state

-- the state of a set that the step touches as the end of the move begins
abbrev pub before_end : ScriptData → World → ℕ → Step → ℕ → SetState
before_end script w q (Act client) s =
    made_by_command script (act_stamp q (w.node q)) client (next_command script (w.node q) client) (w.node q) s
before_end script w q (Take p) s = made_by_front q (w.mail p q) (w.node q) s

-- the ask conflicts with none that stands before it, unless it was given up
abbrev pub IsInTurn : Service → Type 0
IsInTurn service = (k : ℕ) → k < service.place → is_gone service.state (ask_at service.state service.place).client ≡ false
    → IsFalse (conflicts (ask_at service.state service.place).mode (ask_at service.state k).mode)

-- the move ends with these services, and each ask that is served conflicts with none that stands before it
pub record ServesInTurn (script : ScriptData) (w : World) (q : ℕ) (step : Step) (s : ℕ) : Type 0 where
  pub ends : state_at (after script w q step) s q ≡ (finish s (move_stamp w q step) (before_end script w q step s)).state
  pub in_turn : All IsInTurn (services s (move_stamp w q step) (before_end script w q step s))

-- the lines of `serve` are those of its services
abbrev pub LinesOfServices : Type 0
LinesOfServices = (set : ℕ) (stamp : Stamp) (s : SetState) → (serve set stamp s).events ≡ lines_of_services set stamp (services set stamp s)

-- so each move of a run ends, on each set that it touches
abbrev pub ServedInTurn : Type 0
ServedInTurn = (script : ScriptData) (run : List Logged) → IsRun script run → (k s q : ℕ) (step : Step)
    → IsTrue (is_enabled script (world_after script (take k run)) q step) → Contains (sets_of_step script (world_after script (take k run)) q step) s
    → ServesInTurn script (world_after script (take k run)) q step s

-- What the `try` lines of a move tell.

-- the line is no `try` line
abbrev pub IsNoTry : Event → Type 0
IsNoTry (TryLine client s mode got) = ⊥
IsNoTry other = Unit {0}

-- node q acts for the client, whose next command is this `try`, and `got` says whether q can grant the mode
pub record AnswersTry (script : ScriptData) (w : World) (q : ℕ) (step : Step) (client s : ℕ) (mode : Mode) (got : Bool) : Type 0 where
  pub act : step ≡ Act client
  pub command : next_command script (w.node q) client ≡ Some (Try s mode)
  pub answer : got ≡ can_grant q (state_at w s q) client mode

-- the line answers the command of the step, if it is a `try` line
abbrev pub IsExactTry : ScriptData → World → ℕ → Step → Event → Type 0
IsExactTry script w q step (TryLine client s mode got) = AnswersTry script w q step client s mode got
IsExactTry script w q step other = Unit {0}

-- of these lines of the step only the first may be a `try` line, and it answers the command
pub record HasExactTries (script : ScriptData) (w : World) (q : ℕ) (step : Step) (lines : List Event) : Type 0 where
  pub first : All (IsExactTry script w q step) lines
  pub later : All IsNoTry (drop 1 lines)

-- the line says whether the client's own node can grant the mode, if it is a `try` line
abbrev pub IsOwnAnswer : ScriptData → World → Event → Type 0
IsOwnAnswer script w (TryLine client s mode got) = got ≡ can_grant (home script client) (state_at w s (home script client)) client mode
IsOwnAnswer script w other = Unit {0}

-- What is promised of a run of a script.

-- a client holds a lock by the lines of the run exactly as often as its node holds it for the client
abbrev pub LinesAreHeld : ScriptData → List Logged → Type 0
LinesAreHeld script run = (client s : ℕ) (mode : Mode) → client < length script.clients → s < length script.sets
    → times_held (holdings script (lines_of run)) (holding client s mode)
    ≡ count_of (state_at (world_after script run) s (home script client)).held client mode

-- a client has an open `wait` line exactly where an unanswered ask of it wants the mode
abbrev pub LinesAreWaits : ScriptData → List Logged → Type 0
LinesAreWaits script run = (client s : ℕ) (mode : Mode) → client < length script.clients → s < length script.sets
    → HasOpenWait client s mode (lines_of run) ↔ WaitsFor script (world_after script run) client s mode

-- each unanswered ask stands in one place
abbrev pub AsksStandOnce : ScriptData → World → Type 0
AsksStandOnce script w = (s x : ℕ) (ask : Ask) → x < script.nodes
    → Contains (state_at w s x).pending ask → place_count script w s ask ≡ 1

-- a node that holds a lock of the set keeps frozen what the queue of the set's desk freezes
abbrev pub IsFrozenByQueue : ScriptData → World → ℕ → ℕ → Type 0
IsFrozenByQueue script w s x = (t : ℕ) × (desk : Desk) × DeskIs script w s (Some t) desk × ((state_at w s x).frozen ≡ frozen_by desk.queue)

-- what is promised where no move is left
pub record PromisedAtRest (script : ScriptData) (run : List Logged) : Type 0 where
  -- the first waiter of a set conflicts with a lock that another client holds
  pub first : (s : ℕ) (ask : Ask) → s < length script.sets → IsFirstWaiter script (world_after script run) s ask
      → IsBarredByLines script (lines_of run) s ask
  -- each other unanswered ask is in the queue or led to it
  pub led : (s x : ℕ) (ask : Ask) → s < length script.sets → x < script.nodes
      → Contains (state_at (world_after script run) s x).pending ask → IsLedToQueue script (world_after script run) s ask
  pub frozen : (s x : ℕ) (row : Row) → s < length script.sets → x < script.nodes
      → Contains (state_at (world_after script run) s x).held row → IsFrozenByQueue script (world_after script run) s x

-- what is promised of the moment at which these moves have been made
pub record PromisedAfter (script : ScriptData) (run : List Logged) : Type 0 where
  -- no two clients hold conflicting locks, and the lines tell what the nodes hold
  pub lawful : IsLawful (holdings script (lines_of run))
  pub held : LinesAreHeld script run
  pub one_token : (s : ℕ) → token_count script (world_after script run) s ≡ 1
  pub one_place : AsksStandOnce script (world_after script run)
  -- the lines tell who waits, and whether anyone does
  pub waits : LinesAreWaits script run
  pub somebody : (anyone_waits script (world_after script run) ≡ true) ↔ HasWaiter script (lines_of run)
  pub at_rest : IsTrue (is_at_rest script (world_after script run)) → PromisedAtRest script run

-- what is promised of a run
pub record Promised (script : ScriptData) (run : List Logged) : Type 0 where
  -- after each of its moves
  pub moments : (k : ℕ) → PromisedAfter script (take k run)
  -- each `try` is answered as the client's own node could grant before the move
  pub tries : (k : ℕ) (entry : Logged) → slice_get run k ≡ Some entry
      → All (IsOwnAnswer script (world_after script (take k run))) entry.events
  -- each move serves asks only in their turn
  pub in_turn : (k s q : ℕ) (step : Step) → IsTrue (is_enabled script (world_after script (take k run)) q step)
      → Contains (sets_of_step script (world_after script (take k run)) q step) s
      → ServesInTurn script (world_after script (take k run)) q step s
