-- When a node may grant a mode to a client at once.
use Rattle.std.specs.Prelude.{Bool, ℕ, List, ◌||◌, ◌&&◌, not, Option, Some, None, take}
use Rattle.std.specs.List.{list_any}
use Rattle.lt_modes.specs.declared.ask.Ask.{Ask}
use Rattle.lt_modes.specs.Modes.{Modes, bars, has, union, covers, is_of, own_modes, other_modes}
use Rattle.lt_modes.specs.State.{SetState, Desk, modes_of_asks, place, others, own_owed}
use Rattle.lt_modes.specs.declared.mode.Mode.{Mode}

-- the client holds some lock in the set
abbrev pub is_holder : SetState → ℕ → Bool
is_holder s client = list_any (is_of client) s.held

-- the asks that would stand before an ask of this client
abbrev pub asks_before : SetState → ℕ → Desk → List Ask
asks_before s client desk = take (place desk.queue (is_holder s client)) desk.queue

-- what stands against a client's request at the desk, besides the locks of other clients of the node:
-- the other nodes, the copies that are still on their way here, and the asks before it
abbrev pub against : ℕ → SetState → ℕ → Desk → Modes
against me s client desk =
    union (others me s desk me) (union (own_owed me s desk) (modes_of_asks (asks_before s client desk)))

-- without the desk the node's charge must cover the mode, and it must not be frozen;
-- at the desk nothing may stand against it
abbrev pub may_join : ℕ → SetState → ℕ → Mode → Option Desk → Bool
may_join me s client mode None = covers s.charge mode && not (has mode s.frozen)
may_join me s client mode (Some desk) = not (has mode (bars (against me s client desk)))

-- node `me` can grant the mode: the client's own modes cover it,
-- or no lock of another client of the node conflicts and it may join
abbrev pub can_grant : ℕ → SetState → ℕ → Mode → Bool
can_grant me s client mode =
    covers (own_modes s.held client) mode
    || (not (has mode (bars (other_modes s.held client))) && may_join me s client mode s.desk)
