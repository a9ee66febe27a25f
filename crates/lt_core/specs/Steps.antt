-- Steps of a rule that functions of a core make.
use Rattle.std.specs.Prelude.{Bool, false, ◌==◌, ℕ, true, not, List, Option, None, if◌then◌else◌}
use Rattle.lt_modes.specs.declared.ask.Ask.{Ask}
use Rattle.lt_modes.specs.State.{SetState, Parked, ParkedAsk, ParkedTell, Made, without}
use Rattle.lt_modes.specs.Serving.{answered, answer_event, end_event, is_gone, rows_after, without_gone}
use Rattle.lt_modes.specs.Waiting.{pending_ask}
use Rattle.lt_modes.specs.declared.event.Event.TheVariants.{Void}
use Rattle.lt_modes.specs.SetMove.{answers}
use Rattle.lt_modes.specs.Fits as rules
use Rattle.lt_core.specs.declared.numbers.Numbers.{Numbers}

-- the ask's client gets the lock and waits no more
abbrev pub grant_ask : ℕ → Ask → SetState → Made
grant_ask set ask s =
    answers (answer_event set ask) (record s { held = answered s.held ask; pending = without s.pending ask.stamp })

-- the ask was given up: its client gets nothing
abbrev pub void_ask : ℕ → Ask → SetState → Made
void_ask set ask s =
    answers (Void ask.client set ask.mode)
    (record s { pending = without s.pending ask.stamp; gone = without_gone s.gone ask.client })

-- the ask is answered
abbrev pub answer_ask : ℕ → Ask → SetState → Made
answer_ask set ask s =
    answers (end_event set s ask)
    (record s {
      held = rows_after s ask;
      pending = without s.pending ask.stamp;
      gone = without_gone s.gone ask.client;
    })

-- the ask for which the client waits here, where it does
abbrev pub live_ask : SetState → ℕ → Option Ask
live_ask s client = if is_gone s client then None else pending_ask s client

-- how many asks it is
abbrev pub ask_count : Parked → ℕ
ask_count (ParkedAsk ask) = 1
ask_count (ParkedTell tell) = 0

abbrev pub is_ask_of : ℕ → Parked → Bool
is_ask_of client (ParkedAsk ask) = ask.client == client
is_ask_of client (ParkedTell tell) = false

-- The numbers of a script, as the rules speak of them.

abbrev pub rule_numbers : Numbers → rules.Numbers
rule_numbers n = record { nodes = n.nodes; sets = n.sets; homes = n.homes.now }

-- an ask that is known, or a tell
abbrev pub is_known_item : ℕ → SetState → Parked → Bool
is_known_item q s (ParkedAsk ask) = rules.is_known q s ask
is_known_item q s (ParkedTell tell) = true

-- no parked ask from place k on is of the client of the item, where that is an ask
abbrev pub is_apart_from : Parked → List Ask → Bool
is_apart_from (ParkedAsk ask) rest = not (rules.has_client ask.client rest)
is_apart_from (ParkedTell tell) rest = true
