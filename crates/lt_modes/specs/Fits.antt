-- Which letters a node can be sent: what it tests before it takes one.
use Rattle.std.specs.Prelude.{Bool, true, ◌&&◌, ◌||◌, ◌==◌, ◌+◌, ◌^◌, not, nat_lt, nat_le, ℕ, List, [], ◌∷◌, ◌++◌, Option, Some, None, length, filter_map, slice_index, is_none, map}
use Rattle.std.specs.List.{list_any, list_all}
use Rattle.lt_modes.specs.declared.ask.Ask.{Ask}
use Rattle.lt_modes.specs.Script.{ScriptData, ClientData}
use Rattle.lt_modes.specs.State.{SetState, Desk, Tell, Body, AskBody, TellBody, CopyBody, TokenBody, FreezeBody, Letter, Parked, ParkedAsk, ParkedTell, same_ask}
use Rattle.lt_modes.specs.Serving.{queue_of}

-- the numbers of a script: its nodes, its sets, and the node of each client
pub record Numbers : Type 0 where
  pub nodes : ℕ
  pub sets : ℕ
  pub homes : List ℕ

-- the numbers of this script
abbrev pub numbers_of : ScriptData → Numbers
numbers_of script = record {
  nodes = script.nodes;
  sets = length script.sets;
  homes = map (λ (client : ClientData). client.node) script.clients;
}

-- the ask is of a client of its node
abbrev pub is_at_home : Numbers → Ask → Bool
is_at_home numbers ask =
    nat_lt ask.node numbers.nodes
    && (nat_lt ask.client (length numbers.homes) && slice_index numbers.homes ask.client == ask.node)

abbrev pub ask_if : Parked → Option Ask
ask_if (ParkedAsk ask) = Some ask
ask_if (ParkedTell tell) = None

-- the asks that are parked here
abbrev pub parked_asks : SetState → List Ask
parked_asks s = filter_map ask_if s.parked

-- the asks that are parked here, or in the queue of the desk here
abbrev pub asks_here : SetState → List Ask
asks_here s = parked_asks s ++ queue_of s

-- one of the asks is of the client
abbrev pub has_client : ℕ → List Ask → Bool
has_client client asks = list_any (λ (ask : Ask). ask.client == client) asks

-- the ask is one of the node's unanswered asks
abbrev pub is_pending : SetState → Ask → Bool
is_pending s ask = list_any (same_ask ask) s.pending

-- where the ask is of node q, it is unanswered there
abbrev pub is_known : ℕ → SetState → Ask → Bool
is_known q s ask = not (ask.node == q) || is_pending s ask

-- no two of the asks are of one client
abbrev pub are_apart : List Ask → Bool
are_apart [] = true
are_apart (ask ∷ rest) = not (has_client ask.client rest) && are_apart rest

-- an ask of a client of its node; where that is q, it is unanswered; no ask of its client is here
abbrev pub ask_fits : Numbers → ℕ → SetState → Ask → Bool
ask_fits numbers q s ask =
    is_at_home numbers ask && (is_known q s ask && not (has_client ask.client (asks_here s)))

-- a copy answers an unanswered ask of q that isn't here
abbrev pub copy_fits : Numbers → ℕ → SetState → Ask → Bool
copy_fits numbers q s ask =
    is_at_home numbers ask
    && (ask.node == q && (is_pending s ask && not (has_client ask.client (asks_here s))))

-- the asks that the token brings fit those that are parked here
abbrev pub queue_fits : Numbers → ℕ → SetState → List Ask → Bool
queue_fits numbers q s queue =
    list_all (is_at_home numbers) queue
    && (are_apart (queue ++ parked_asks s) && list_all (is_known q s) (queue ++ parked_asks s))

-- the desk isn't here; the token's epoch is no older than the firm link's; neither it nor the freeze number is above
-- the letter's clock; there is one entry for each node
abbrev pub token_fits : Numbers → ℕ → SetState → ℕ → Desk → Bool
token_fits numbers q s clock desk =
    is_none s.desk
    && (nat_le s.firm.epoch desk.epoch
    && (nat_le desk.epoch clock
    && (nat_le desk.number clock && (length desk.entries == numbers.nodes && queue_fits numbers q s desk.queue))))

-- the tell is of a node of the script, and not younger than its letter
abbrev pub tell_fits : Numbers → ℕ → Tell → Bool
tell_fits numbers clock tell = nat_lt tell.node numbers.nodes && nat_le tell.stamp.clock clock

abbrev pub body_fits : Numbers → ℕ → SetState → ℕ → Body → Bool
body_fits numbers q s clock (AskBody ask marked) = ask_fits numbers q s ask
body_fits numbers q s clock (TellBody tell) = tell_fits numbers clock tell
body_fits numbers q s clock (CopyBody ask) = copy_fits numbers q s ask
body_fits numbers q s clock (TokenBody desk) = token_fits numbers q s clock desk
body_fits numbers q s clock (FreezeBody number modes) = nat_le number clock

-- the letter's numbers are the script's, and no clock is at the bound
abbrev pub head_fits : Numbers → ℕ → Letter → Bool
head_fits numbers clock letter =
    nat_lt letter.set numbers.sets
    && (nat_lt letter.link.node numbers.nodes
    && (nat_le letter.link.epoch letter.stamp.clock
    && (nat_lt (letter.stamp.clock + 1) (2 ^ 62) && nat_lt (clock + 1) (2 ^ 62))))

-- the letter fits node q with this clock, which keeps s for the letter's set
abbrev pub fits : Numbers → ℕ → ℕ → SetState → Letter → Bool
fits numbers q clock s letter =
    head_fits numbers clock letter && body_fits numbers q s letter.stamp.clock letter.body
