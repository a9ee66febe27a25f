-- What the promise of a run says, in words of the run, its lines and its worlds.
use Rattle.std.specs.Prelude.{◌≡◌, ◌<◌, ℕ, List, Some, Bool, IsTrue, true, false, length, take, Contains, slice_get, AllPairs, ◌↔◌}
use Rattle.lt_modes.specs.declared.ask.Ask.{Ask}
use Rattle.lt_modes.specs.declared.event.Event.TheVariants.{Try as TryLine}
use Rattle.lt_modes.specs.declared.mode.Mode.{Mode}
use Rattle.lt_modes.specs.declared.moves.Step.{Step}
use Rattle.lt_modes.specs.declared.parts.Row.{Row}
use Rattle.lt_modes.specs.Freezing.{frozen_by}
use Rattle.lt_modes.specs.Granting.{can_grant}
use Rattle.lt_modes.specs.Modes.{conflicts, count_of}
use Rattle.lt_modes.specs.Script.{ScriptData}
use Rattle.lt_modes.specs.Serving.{ask_at, is_gone}
use Rattle.lt_modes.specs.SetMove.{finish}
use Rattle.lt_modes.specs.State.{Desk}
use Rattle.lt_spec.specs.Facts.{state_at, token_count, place_count, IsFirstWaiter, IsLedToQueue}
use Rattle.lt_spec.specs.Holdings.{agree, holdings, holding, lines_of, times_held, HasOpenWait, HasWaiter, IsBarredByLines, WaitsFor}
use Rattle.lt_spec.specs.NodeMove.{home}
use Rattle.lt_spec.specs.Promised.{Promised, sets_of_step, before_end, services, Service}
use Rattle.lt_spec.specs.World.{Logged, World, world_after, is_at_rest, anyone_waits, is_enabled, move_stamp, after}

-- a fact of the script and of each first part of a run of it that is promised
abbrev pub AtMoments : (ScriptData → List Logged → Type 0) → Type 0
AtMoments fact = (script : ScriptData) (run : List Logged) → Promised script run → (k : ℕ) → fact script (take k run)

-- of locks of different clients no two conflict
abbrev pub HeldLocksAgree : Type 0
HeldLocksAgree = AtMoments (λ script run. AllPairs (λ a b. IsTrue (agree a b)) (holdings script (lines_of run)))

-- each client holds by the lines what its node holds for it
abbrev pub HeldIsTold : Type 0
HeldIsTold = AtMoments (λ script run. (client s : ℕ) (mode : Mode) → client < length script.clients
    → s < length script.sets
    → times_held (holdings script (lines_of run)) (holding client s mode)
    ≡ count_of (state_at (world_after script run) s (home script client)).held client mode)

-- there is one token of each set
abbrev pub TokensAreOne : Type 0
TokensAreOne = AtMoments (λ script run. (s : ℕ) → token_count script (world_after script run) s ≡ 1)

-- each unanswered ask is in one place
abbrev pub AsksAreOnce : Type 0
AsksAreOnce = AtMoments (λ script run. (s x : ℕ) (ask : Ask) → x < script.nodes
    → Contains (state_at (world_after script run) s x).pending ask
    → place_count script (world_after script run) s ask ≡ 1)

-- the lines tell who waits for what
abbrev pub OpenWaitsAreTold : Type 0
OpenWaitsAreTold = AtMoments (λ script run. (client s : ℕ) (mode : Mode) → client < length script.clients
    → s < length script.sets
    → HasOpenWait client s mode (lines_of run) ↔ WaitsFor script (world_after script run) client s mode)

-- and whether anyone waits
abbrev pub LinesTellWhether : Type 0
LinesTellWhether = AtMoments (λ script run.
    (anyone_waits script (world_after script run) ≡ true) ↔ HasWaiter script (lines_of run))

-- at rest the first who waits in a set conflicts with a lock that another client holds
abbrev pub FirstIsBarred : Type 0
FirstIsBarred = AtMoments (λ script run. (s : ℕ) (ask : Ask) → IsTrue (is_at_rest script (world_after script run))
    → s < length script.sets → IsFirstWaiter script (world_after script run) s ask
    → IsBarredByLines script (lines_of run) s ask)

-- at rest each unanswered ask is led to the queue
abbrev pub AsksLedAtRest : Type 0
AsksLedAtRest = AtMoments (λ script run. (s x : ℕ) (ask : Ask) → IsTrue (is_at_rest script (world_after script run))
    → s < length script.sets → x < script.nodes
    → Contains (state_at (world_after script run) s x).pending ask
    → IsLedToQueue script (world_after script run) s ask)

-- at rest each node with a lock keeps frozen what the queue of the desk freezes, which is at a node
abbrev pub HoldersAreTold : Type 0
HoldersAreTold = AtMoments (λ script run. (s x : ℕ) (row : Row) → IsTrue (is_at_rest script (world_after script run))
    → s < length script.sets → x < script.nodes
    → Contains (state_at (world_after script run) s x).held row
    → (t : ℕ) × (desk : Desk) × (t < script.nodes) × ((state_at (world_after script run) s t).desk ≡ Some desk)
    × ((state_at (world_after script run) s x).frozen ≡ frozen_by desk.queue))

-- of a run that is promised, this step of this node can be made after its first k moves, and touches the set
pub record IsTouching (script : ScriptData) (run : List Logged) (k s q : ℕ) (step : Step) : Type 0 where
  pub promised : Promised script run
  pub enabled : IsTrue (is_enabled script (world_after script (take k run)) q step)
  pub touched : Contains (sets_of_step script (world_after script (take k run)) q step) s

-- a fact of each world, node, step and set that it touches
abbrev pub OfMoves : (ScriptData → World → ℕ → Step → ℕ → Type 0) → Type 0
OfMoves fact = (script : ScriptData) (run : List Logged) (k s q : ℕ) (step : Step) → IsTouching script run k s q step
    → fact script (world_after script (take k run)) q step s

-- each move ends as serving ends it
abbrev pub MovesEndServed : Type 0
MovesEndServed = OfMoves (λ script w q step s.
    state_at (after script w q step) s q ≡ (finish s (move_stamp w q step) (before_end script w q step s)).state)

-- what it serves conflicts with no ask before it, unless it was given up
abbrev pub MovesServeInTurn : Type 0
MovesServeInTurn = OfMoves (λ script w q step s. (k : ℕ) (service : Service)
    → Contains (services s (move_stamp w q step) (before_end script w q step s)) service
    → k < service.place → is_gone service.state (ask_at service.state service.place).client ≡ false
    → conflicts (ask_at service.state service.place).mode (ask_at service.state k).mode ≡ false)

-- a `try` is answered as the client's own node could grant
abbrev pub TriesTellOwn : Type 0
TriesTellOwn = (script : ScriptData) (run : List Logged) → Promised script run → (k client s : ℕ) (entry : Logged)
    (mode : Mode) (got : Bool) → slice_get run k ≡ Some entry → Contains entry.events (TryLine client s mode got)
    → got
    ≡ can_grant (home script client) (state_at (world_after script (take k run)) s (home script client)) client mode
