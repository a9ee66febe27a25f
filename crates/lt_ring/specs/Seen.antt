-- Who waits for whom among the clients of some nodes of one service, by what each of these nodes has.
use Rattle.std.specs.Prelude.{◌≡◌, ◌<◌, ◌&&◌, ◌||◌, ◌==◌, not, ℕ, Bool, false, List, [], ◌∷◌, Option, None, Some, if◌then◌else◌, find, length, nat_lt, slice_index_or}
use Rattle.std.specs.List.{list_any, list_all}
use Rattle.lt_modes.specs.declared.mode.Mode.{Mode}
use Rattle.lt_modes.specs.Modes.{any_mode, conflicts}
use Rattle.lt_modes.specs.Waiting.{stands_before, parked_behind}
use Rattle.lt_spec.specs.NodeMove.{home}
use Rattle.lt_spec.specs.Rings.{Graph}
use Rattle.lt_node.specs.NodeData.{NodeData, state_of}
use Rattle.lt_view.specs.View.{count_held, wait_of}

-- the node is that of the client
abbrev pub is_node_of : ℕ → NodeData → Bool
is_node_of client n = nat_lt client (length n.script.clients) && home n.script client == n.me

-- the client's own node, if it is one of these
abbrev pub own_node : List NodeData → ℕ → Option NodeData
own_node nodes client = find (is_node_of client) nodes

abbrev pub wait_at : ℕ → Option NodeData → Option (ℕ × Mode)
wait_at client None = None
wait_at client (Some n) = wait_of n.script (state_of n) client

-- the set in which the client waits at its own node, and the mode that it waits for
abbrev pub wait_seen : List NodeData → ℕ → Option (ℕ × Mode)
wait_seen nodes client = wait_at client (own_node nodes client)

-- the client holds a lock of the set here in its own mode, with which the mode conflicts
abbrev pub bars_at : NodeData → ℕ → Mode → ℕ → Mode → Bool
bars_at n set mode client own = conflicts mode own && nat_lt 0 (count_held n.script (state_of n) client set own)

abbrev pub holds_at : ℕ → Mode → ℕ → Option NodeData → Bool
holds_at set mode client None = false
holds_at set mode client (Some n) = any_mode (bars_at n set mode client)

-- the client holds a lock of the set at its own node, with which the mode conflicts
abbrev pub holds_seen : List NodeData → ℕ → Mode → ℕ → Bool
holds_seen nodes set mode client = holds_at set mode client (own_node nodes client)

-- an ask of the other client for the set stands before one of the client in the queue of the set's desk here, or one of
-- the client is parked here behind one of the other client
abbrev pub is_behind_at : ℕ → ℕ → ℕ → NodeData → Bool
is_behind_at set client other n =
    nat_lt set (length n.script.sets)
    && (stands_before ((state_of n).set set) other client || parked_behind ((state_of n).set set) other client)

-- so it is at one of these nodes
abbrev pub is_behind_seen : List NodeData → ℕ → ℕ → ℕ → Bool
is_behind_seen nodes set client other = list_any (is_behind_at set client other) nodes

-- it is a wait in this set
abbrev pub is_wait_in : ℕ → Option (ℕ × Mode) → Bool
is_wait_in set None = false
is_wait_in set (Some wait) = wait.0 == set

-- the other client's lock, or its ask while it waits in the same set, stands in the way of what the client waits for
abbrev pub is_kept_seen : List NodeData → ℕ → ℕ → Option (ℕ × Mode) → Option (ℕ × Mode) → Bool
is_kept_seen nodes client other None others = false
is_kept_seen nodes client other (Some wait) others =
    holds_seen nodes wait.0 wait.1 other || (is_wait_in wait.0 others && is_behind_seen nodes wait.0 client other)

-- the client waits for the other one
abbrev pub waits_seen : List NodeData → Graph
waits_seen nodes client other =
    not (client == other) && is_kept_seen nodes client other (wait_seen nodes client) (wait_seen nodes other)

-- Of which service nodes are.

-- two nodes have as many nodes, sets and clients beside them
abbrev pub is_alike : NodeData → NodeData → Bool
is_alike a b =
    a.script.nodes == b.script.nodes
    && (length a.script.sets == length b.script.sets && length a.script.clients == length b.script.clients)

-- how many clients there are, by the first node; none if there is no node, or some node isn't like the first
abbrev pub clients_seen : List NodeData → Option ℕ
clients_seen [] = None
clients_seen (n ∷ rest) = if list_all (is_alike n) (n ∷ rest) then Some (length n.script.clients) else None

-- for what each of so many clients waits
pub record AreWaits (nodes : List NodeData) (clients : ℕ) (waits : List (Option (ℕ × Mode))) : Type 0 where
  pub count : length waits ≡ clients
  pub each : (client : ℕ) → client < clients → slice_index_or waits client None ≡ wait_seen nodes client
