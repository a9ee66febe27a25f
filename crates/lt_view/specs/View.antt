-- What a client holds and waits for at its node, as a listing of locks has it.
use Rattle.std.specs.Prelude.{◌+◌, ◌-◌, ◌&&◌, ℕ, Bool, zero, suc, Option, None, Some, if◌then◌else◌, length, nat_lt, option_map}
use Rattle.std.specs.Option.{option_or}
use Rattle.lt_modes.specs.declared.ask.Ask.{Ask}
use Rattle.lt_modes.specs.declared.mode.Mode.{Mode}
use Rattle.lt_modes.specs.Modes.{any_mode, count_of}
use Rattle.lt_modes.specs.Script.{ScriptData}
use Rattle.lt_modes.specs.Waiting.{stands_before}
use Rattle.lt_spec.specs.NodeMove.{NodeState}
use Rattle.lt_node.specs.NodeData.{first_ask}

-- how many locks of the mode the client holds in the set; none if the script has no such set
abbrev pub count_held : ScriptData → NodeState → ℕ → ℕ → Mode → ℕ
count_held script n client set mode =
    if nat_lt set (length script.sets) then count_of (n.set set).held client mode else 0

-- the client holds a lock in the set
abbrev pub holds_in : NodeState → ℕ → ℕ → Bool
holds_in n client set = any_mode (λ mode. nat_lt 0 (count_of (n.set set).held client mode))

-- the set, if the client holds a lock in it
abbrev pub held_at : NodeState → ℕ → ℕ → Option ℕ
held_at n client set = if holds_in n client set then Some set else None

-- the first of so many sets, from this one on, in which the client holds a lock
abbrev pub held_among : NodeState → ℕ → ℕ → ℕ → Option ℕ
held_among n client from zero = None
held_among n client from (suc k) = option_or (held_among n client from k) (held_at n client (from + k))

-- the first set of the script, from this one on, in which the client holds a lock
abbrev pub first_held : ScriptData → NodeState → ℕ → ℕ → Option ℕ
first_held script n client from = held_among n client from (length script.sets - from)

-- the set in which the client waits, and the mode that it waits for
abbrev pub wait_of : ScriptData → NodeState → ℕ → Option (ℕ × Mode)
wait_of script n client = option_map (λ (found : ℕ × Ask). (found.0, found.1.mode)) (first_ask script n client)

-- in the queue of the set's desk here an ask of the other client stands before one of the client
abbrev pub queues_before : ScriptData → NodeState → ℕ → ℕ → ℕ → Bool
queues_before script n set other client = nat_lt set (length script.sets) && stands_before (n.set set) other client
