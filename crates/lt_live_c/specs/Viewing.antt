-- What C is told of what clients hold and wait for at a station's node.
use Rattle.std.specs.Prelude.{◌≡◌, ◌&&◌, ℕ, Bool, Option, Some, None, if◌then◌else◌, nat_lt}
use Rattle.lt_modes.specs.declared.mode.Mode.{Mode}
use Rattle.lt_modes.specs.declared.mode.Mode.TheVariants as modes
use Rattle.lt_node.specs.NodeData.{NodeData, state_of}
use Rattle.lt_view.specs.View.{count_held, first_held, wait_of, queues_before}
use Rattle.lt_live_c.specs.declared.code.TheConstants.{OK, NOTHING, WRONG_HANDLE}
use Rattle.lt_live_c.specs.declared.content.Content.{Content}
use Rattle.lt_live_c.specs.declared.content.Content.TheVariants as contents
use Rattle.lt_live_c.specs.Calls.{TellsNumber}

-- the node of a station, or the one that lies in a process of its own
abbrev pub node_seen : Content → Option NodeData
node_seen (contents.Station s) = Some s.runner.node
node_seen (contents.Node n) = Some n.remote.station.runner.node
node_seen other = None

abbrev pub node_behind : Option Content → Option NodeData
node_behind None = None
node_behind (Some content) = node_seen content

-- a number that a client can have
abbrev pub may_be_client : ℕ → Bool
may_be_client number = nat_lt number 65536

-- the first set, from this one on, in which the client holds a lock
abbrev pub held_from_on : NodeData → ℕ → ℕ → Option ℕ
held_from_on node client from =
    if may_be_client client then first_held node.script (state_of node) client from else None

-- C is told of it
abbrev pub TellsHeld : Option NodeData → ℕ → ℕ → ℕ → ℕ → ℕ → Type 0
TellsHeld None client from code was set = (code ≡ WRONG_HANDLE) × (set ≡ was)
TellsHeld (Some node) client from code was set = TellsNumber (held_from_on node client from) code was set

-- how many locks of the mode the client holds in the set
abbrev pub locks_of_mode : NodeData → ℕ → ℕ → Mode → ℕ
locks_of_mode node client set mode =
    if may_be_client client then count_held node.script (state_of node) client set mode else 0

abbrev pub locks_seen : Option NodeData → ℕ → ℕ → Option Mode → ℕ
locks_seen (Some node) client set (Some mode) = locks_of_mode node client set mode
locks_seen (Some node) client set None = 0
locks_seen None client set mode = 0

-- the number of a mode
abbrev pub number_of_mode : Mode → ℕ
number_of_mode modes.IntentionRead = 0
number_of_mode modes.Read = 1
number_of_mode modes.Upgrade = 2
number_of_mode modes.IntentionWrite = 3
number_of_mode modes.ReadIntentionWrite = 4
number_of_mode modes.Write = 5

-- the set in which the client waits, and the mode that it waits for
abbrev pub asked_by : NodeData → ℕ → Option (ℕ × Mode)
asked_by node client = if may_be_client client then wait_of node.script (state_of node) client else None

abbrev pub TellsAskedOf : Option (ℕ × Mode) → ℕ → ℕ → ℕ → ℕ → ℕ → Type 0
TellsAskedOf None code was_set was_mode set mode = (code ≡ NOTHING) × (set ≡ was_set) × (mode ≡ was_mode)
TellsAskedOf (Some found) code was_set was_mode set mode =
    (code ≡ OK) × (set ≡ found.0) × (mode ≡ number_of_mode found.1)

-- C is told of it
abbrev pub TellsAsked : Option NodeData → ℕ → ℕ → ℕ → ℕ → ℕ → ℕ → Type 0
TellsAsked None client code was_set was_mode set mode = (code ≡ WRONG_HANDLE) × (set ≡ was_set) × (mode ≡ was_mode)
TellsAsked (Some node) client code was_set was_mode set mode =
    TellsAskedOf (asked_by node client) code was_set was_mode set mode

-- the code tells whether an ask of the client stands behind one of the other in the queue of the set's desk
abbrev pub code_of_behind : NodeData → ℕ → ℕ → ℕ → ℕ
code_of_behind node set client other =
    if (may_be_client client && may_be_client other) && queues_before node.script (state_of node) set other client
    then OK else NOTHING

abbrev pub tells_behind : Option NodeData → ℕ → ℕ → ℕ → ℕ
tells_behind None set client other = WRONG_HANDLE
tells_behind (Some node) set client other = code_of_behind node set client other
