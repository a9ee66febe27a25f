-- What nodes keep in runs stays within the limits of scripts, as statements.
use Rattle.std.specs.Prelude.{ℕ, ◌<◌, ◌≤◌, List, length, IsTrue, ◌≡◌, ◌⊎◌, [], is_some, Contains, All, ◌+◌, ◌^◌, Some, remove, ◌≢◌, Option, None, IsFalse, take}
use Rattle.lt_modes.specs.Script.{ScriptData}
use Rattle.lt_modes.specs.declared.ask.Ask.{Ask}
use Rattle.lt_modes.specs.Modes.{excludes_itself, conflicts}
use Rattle.lt_modes.specs.State.{SetState, Parked, ParkedAsk, ParkedTell, Letter, Desk, Made, entry_of}
use Rattle.lt_modes.specs.Serving.{owing, serve_copy}
use Rattle.lt_modes.specs.Telling.{is_newer, put_entry}
use Rattle.lt_modes.specs.HandingOver.{leaving, hand_over_to}
use Rattle.lt_modes.specs.declared.moves.Step.{Step}
use Rattle.lt_modes.specs.Fits.{fits, numbers_of}
use Rattle.lt_modes.specs.declared.parts.Row.{Row}
use Rattle.lt_modes.specs.declared.stamp.Stamp.{Stamp}
use Rattle.lt_modes.specs.Freezing.{frozen_by}
use Rattle.lt_modes.specs.declared.event.Event.{Event}
use Rattle.lt_spec.specs.Script.{IsScript}
use Rattle.lt_spec.specs.declared.limits.TheConstants.{MAX_COMMANDS_OF_SERVICE}
use Rattle.lt_spec.specs.World.{Logged, world_after, is_runnable, IsRun, World, is_enabled, after, after_made, is_at_rest}
use Rattle.lt_spec.specs.NodeMove.{home, related, locks_in_sets, IsWhole, touched}
use Rattle.lt_spec.specs.Limits.{node_within, leaves_asks}
use Rattle.lt_spec.specs.Facts.{state_at, DeskIs, IsFirstWaiter, IsLedToQueue}
use Rattle.lt_spec.specs.Holdings.{IsBarredByLines}
use Rattle.lt_model.specs.Invariant.{WorldInvariant, DeskKept, SetKept, LinesKept}
use Rattle.lt_model.specs.OnWay.{Between, Acting, Frozen}
use Rattle.lt_model.specs.AccountRules.{IsCopyFree}

-- after a run each node keeps no more than a script's limits allow
abbrev pub NodesStayWithin : Type 0
NodesStayWithin = (script : ScriptData) (run : List Logged) → IsScript script → IsRun script run → (q : ℕ) → q < script.nodes
    → IsTrue (node_within script ((world_after script run).node q))

-- no client has more locks in a family there than a service has commands
abbrev pub DropsStayWithin : Type 0
DropsStayWithin = (script : ScriptData) (run : List Logged) → IsScript script → IsRun script run → (q : ℕ) → q < script.nodes
    → (client s : ℕ) → locks_in_sets ((world_after script run).node q) client (related script s) ≤ MAX_COMMANDS_OF_SERVICE

-- and where a client of it can act, there is a place for a further ask in each set
abbrev pub AsksArePlaced : Type 0
AsksArePlaced = (script : ScriptData) (run : List Logged) → IsScript script → IsRun script run → (client : ℕ) → client < length script.clients
    → IsTrue (is_runnable script (world_after script run) client)
    → IsTrue (leaves_asks script ((world_after script run).node (home script client)) client)

-- What holds up the parked letters of a node, as it can tell from what it keeps.

-- what is parked at x waits for the token, which its own firm link says is on its way there, or is an ask behind an older
-- taking ask of x
abbrev pub IsHeldUp : ℕ → SetState → Parked → Type 0
IsHeldUp x t (ParkedTell tell) = t.firm.node ≡ x
IsHeldUp x t (ParkedAsk ask) =
    (t.firm.node ≡ x)
    ⊎ ((older : Ask) × Contains t.pending older × IsTrue (excludes_itself older.mode)
    × IsTrue (is_newer ask.stamp older.stamp))

-- all that is parked at x is held up, and where the desk is nothing is parked
pub record HeldUp (x : ℕ) (t : SetState) : Type 0 where
  pub none : IsTrue (is_some t.desk) → t.parked ≡ []
  pub held : All (IsHeldUp x t) t.parked

-- The whole invariant through a move, as statements.

-- an enabled move keeps the invariant, in any world that has it
abbrev pub KeptStays : Type 0
KeptStays = (script : ScriptData) (w : World) (q : ℕ) (step : Step) → IsWhole script → WorldInvariant script w
    → IsTrue (is_enabled script w q step) → WorldInvariant script (after script w q step)

-- and each letter that is on its way there fits its receiver, but for the bound on the two clocks
abbrev pub LettersFit : Type 0
LettersFit = (script : ScriptData) (w : World) (p q : ℕ) (letter : Letter) → IsWhole script → WorldInvariant script w
    → p < script.nodes → q < script.nodes → Contains (w.mail p q) letter
    → letter.stamp.clock + 1 < 2 ^ 62 → (w.node q).clock + 1 < 2 ^ 62
    → IsTrue (fits (numbers_of script) q (w.node q).clock (state_at w letter.set q) letter)

-- One effect of a node on a set, in the world.

-- the world once node q has made this of the set
abbrev pub after_effect : World → ℕ → ℕ → Made → World
after_effect w q s m = after_made q (touched (w.node q) s m) w

-- the desk once the ask at place k was answered by a copy
abbrev pub copied : Ask → ℕ → Desk → Desk
copied ask k desk = record (put_entry desk ask.node (owing ask (entry_of desk ask.node))) { queue = remove desk.queue k }

-- a desk of the script's nodes is at q, a node of it
pub record IsDeskAt (script : ScriptData) (w : World) (s q : ℕ) (desk : Desk) : Type 0 where
  pub node : q < script.nodes
  pub here : (state_at w s q).desk ≡ Some desk
  pub entries : length desk.entries ≡ script.nodes

-- the ask waits at its own node, which is of the script
pub record IsWaiting (script : ScriptData) (w : World) (s : ℕ) (ask : Ask) : Type 0 where
  pub node : ask.node < script.nodes
  pub waits : Contains (state_at w s ask.node).pending ask

-- The laws of ledgers, as statements. The ledgers of a set are the accounts and the news of its nodes, with its desk where it is.

-- between moves the ledgers of the set are kept, wherever its desk is
abbrev pub LedgersKept : ScriptData → World → ℕ → Type 0
LedgersKept script w s = (place : Option ℕ) (desk : Desk) → DeskIs script w s place desk
    → DeskKept script Between w s place desk

-- each enabled move, in any world in which the set is kept, keeps its ledgers
abbrev pub MovesKeepLedgers : Type 0
MovesKeepLedgers = (script : ScriptData) (w : World) (s q : ℕ) (step : Step) → IsWhole script → SetKept script Between w s
    → IsTrue (is_enabled script w q step) → LedgersKept script (after script w q step) s

-- in any world in which the set is kept, no two locks of different clients on it conflict, be they of one node or of two
abbrev pub AllLocksAgree : Type 0
AllLocksAgree = (script : ScriptData) (w : World) (s : ℕ) → SetKept script Between w s
    → (x y : ℕ) (a b : Row) → x < script.nodes → y < script.nodes
    → Contains (state_at w s x).held a → Contains (state_at w s y).held b
    → (x ≢ y) ⊎ (a.client ≢ b.client) → IsFalse (conflicts a.mode b.mode)

-- each enabled move, in any world in which the set is kept, leaves held up what is parked at its node
abbrev pub MovesHoldUp : Type 0
MovesHoldUp = (script : ScriptData) (w : World) (s q : ℕ) (step : Step) → IsWhole script → SetKept script Between w s
    → HeldUp q (state_at w s q) → IsTrue (is_enabled script w q step) → HeldUp q (state_at (after script w q step) s q)

-- a copy that is sent for the ask at place k keeps the ledgers, where the ask waits and is free
abbrev pub CopyServiceKeeps : Type 0
CopyServiceKeeps = (script : ScriptData) (w : World) (s q k : ℕ) (stamp : Stamp) (desk : Desk) (ask : Ask)
    → IsDeskAt script w s q desk → IsWaiting script w s ask → IsCopyFree q (state_at w s q) desk ask
    → DeskKept script (Acting q) w s (Some q) desk
    → DeskKept script (Acting q) (after_effect w q s (serve_copy s stamp k ask (state_at w s q))) s (Some q) (copied ask k desk)

-- handing over keeps the ledgers, once the freeze has told the desk's own entry
abbrev pub HandOverKeeps : Type 0
HandOverKeeps = (script : ScriptData) (w : World) (s v : ℕ) (stamp : Stamp) (desk : Desk)
    → IsDeskAt script w s stamp.node desk → stamp.clock ≡ (w.node stamp.node).clock
    → (entry_of desk stamp.node).frozen_told ≡ frozen_by desk.queue
    → DeskKept script (Frozen stamp.node) w s (Some stamp.node) desk
    → DeskKept script Between (after_effect w stamp.node s (hand_over_to s stamp (state_at w s stamp.node) v (Some desk))) s None
    (leaving stamp (state_at w s stamp.node) desk)

-- What holds at rest of a set that is kept, as statements.

-- another client holds a lock at some node with which the ask conflicts
pub record IsBarred (script : ScriptData) (w : World) (s : ℕ) (ask : Ask) : Type 0 where
  pub node : ℕ
  pub row : Row
  pub within : node < script.nodes
  pub held : Contains (state_at w s node).held row
  pub other : row.client ≢ ask.client
  pub conflict : IsTrue (conflicts ask.mode row.mode)

-- the first waiter is barred
abbrev pub FirstWaiterConflicts : Type 0
FirstWaiterConflicts = (script : ScriptData) (w : World) (s : ℕ) (ask : Ask) → SetKept script Between w s
    → IsTrue (is_at_rest script w) → IsFirstWaiter script w s ask → IsBarred script w s ask

-- where lines tell what is held, an ask that is barred is barred by the lines
abbrev pub BarredByLines : Type 0
BarredByLines = (script : ScriptData) (lines : List Event) (w : World) (s : ℕ) (ask : Ask) → SetKept script Between w s → LinesKept script lines w
    → s < length script.sets → IsBarred script w s ask → IsBarredByLines script lines s ask

-- each unanswered ask is in the queue, or led to it
abbrev pub AsksAreLed : Type 0
AsksAreLed = (script : ScriptData) (w : World) (s x : ℕ) (ask : Ask) → SetKept script Between w s → x < script.nodes
    → IsTrue (is_at_rest script w) → Contains (state_at w s x).pending ask → IsLedToQueue script w s ask

-- each node that holds a lock keeps frozen what the queue freezes
abbrev pub HoldersAreFrozen : Type 0
HoldersAreFrozen = (script : ScriptData) (w : World) (s x : ℕ) (row : Row) → SetKept script Between w s → x < script.nodes
    → IsTrue (is_at_rest script w) → Contains (state_at w s x).held row
    → (t : ℕ) × (desk : Desk) × DeskIs script w s (Some t) desk × ((state_at w s x).frozen ≡ frozen_by desk.queue)

-- What holds after each prefix of each run, as statements.

-- the world has the invariant
abbrev pub KeptInRuns : Type 0
KeptInRuns = (script : ScriptData) (run : List Logged) → IsWhole script → IsRun script run → (k : ℕ)
    → WorldInvariant script (world_after script (take k run))

-- no two locks of different clients conflict, be they of one node or of two
abbrev pub LocksNeverConflict : Type 0
LocksNeverConflict = (script : ScriptData) (run : List Logged) → IsWhole script → IsRun script run → (k s : ℕ) → s < length script.sets
    → (x y : ℕ) (a b : Row) → x < script.nodes → y < script.nodes
    → Contains (state_at (world_after script (take k run)) s x).held a → Contains (state_at (world_after script (take k run)) s y).held b
    → (x ≢ y) ⊎ (a.client ≢ b.client) → IsFalse (conflicts a.mode b.mode)

-- after fewer than 2^62 - 1 moves each letter that is on its way fits its receiver
abbrev pub LettersFitInRuns : Type 0
LettersFitInRuns = (script : ScriptData) (run : List Logged) → IsWhole script → IsRun script run → (k p q : ℕ) (letter : Letter)
    → k + 1 < 2 ^ 62 → p < script.nodes → q < script.nodes → Contains ((world_after script (take k run)).mail p q) letter
    → IsTrue (fits (numbers_of script) q ((world_after script (take k run)).node q).clock (state_at (world_after script (take k run)) letter.set q) letter)

-- at rest another client holds a lock with which the first waiter of a set conflicts
abbrev pub FirstWaiterInRuns : Type 0
FirstWaiterInRuns = (script : ScriptData) (run : List Logged) → IsWhole script → IsRun script run → (k s : ℕ) (ask : Ask)
    → s < length script.sets → IsTrue (is_at_rest script (world_after script (take k run)))
    → IsFirstWaiter script (world_after script (take k run)) s ask → IsBarred script (world_after script (take k run)) s ask

-- at rest each unanswered ask is in the queue, or led to it
abbrev pub LedInRuns : Type 0
LedInRuns = (script : ScriptData) (run : List Logged) → IsWhole script → IsRun script run → (k s x : ℕ) (ask : Ask)
    → s < length script.sets → x < script.nodes → IsTrue (is_at_rest script (world_after script (take k run)))
    → Contains (state_at (world_after script (take k run)) s x).pending ask → IsLedToQueue script (world_after script (take k run)) s ask

-- at rest each node that holds a lock keeps frozen what the queue freezes
abbrev pub FrozenInRuns : Type 0
FrozenInRuns = (script : ScriptData) (run : List Logged) → IsWhole script → IsRun script run → (k s x : ℕ) (row : Row)
    → s < length script.sets → x < script.nodes → IsTrue (is_at_rest script (world_after script (take k run)))
    → Contains (state_at (world_after script (take k run)) s x).held row
    → (t : ℕ) × (desk : Desk) × DeskIs script (world_after script (take k run)) s (Some t) desk
    × ((state_at (world_after script (take k run)) s x).frozen ≡ frozen_by desk.queue)
