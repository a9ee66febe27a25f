-- Serving: how the desk's node serves the asks in its queue, one after the other.
use Rattle.std.specs.Prelude.{Bool, ◌||◌, ◌&&◌, ◌==◌, ℕ, List, if◌then◌else◌, filter, not, zero, suc, ◌+◌, [], ◌∷◌, ◌++◌, Option, Some, None, length, remove, slice_index_or}
use Rattle.std.specs.List.{list_any}
use Rattle.lt_modes.specs.declared.stamp.Stamp.{Stamp}
use Rattle.lt_modes.specs.State.{Desk, Entry, entry_of, SetState, CopyBody, no_ask, without, Made, silent, then_do, post_of, own_owed, modes_at, others}
use Rattle.lt_modes.specs.declared.mode.Mode.{Mode}
use Rattle.lt_modes.specs.declared.ask.Ask.{Ask}
use Rattle.lt_modes.specs.declared.parts.Row.{Row}
use Rattle.lt_modes.specs.declared.event.Event.{Event}
use Rattle.lt_modes.specs.declared.event.Event.TheVariants.{Grant, Change, Void, Copy}
use Rattle.lt_modes.specs.Modes.{Modes, no_modes, has, union, bars, with_mode, covers, add_lock, take_lock, other_modes}
use Rattle.lt_modes.specs.Telling.{put_entry}

abbrev pub queue_of_desk : Option Desk → List Ask
queue_of_desk None = []
queue_of_desk (Some desk) = desk.queue

-- the asks that wait at the desk, where it is here
abbrev pub queue_of : SetState → List Ask
queue_of s = queue_of_desk s.desk

abbrev pub put_queue : List Ask → Option Desk → Option Desk
put_queue queue None = None
put_queue queue (Some desk) = Some (record desk { queue = queue })

-- the client's unanswered ask here was given up
abbrev pub is_gone : SetState → ℕ → Bool
is_gone s client = list_any (λ other. other == client) s.gone

-- the clients without this one
abbrev pub without_gone : List ℕ → ℕ → List ℕ
without_gone gone client = filter (λ other. not (other == client)) gone

-- the ask is of this node, and was given up
abbrev pub is_void : ℕ → SetState → Ask → Bool
is_void me s ask = ask.node == me && is_gone s ask.client

-- neither another node nor an ask before it conflicts with the ask
abbrev pub is_free : ℕ → SetState → Desk → Modes → Ask → Bool
is_free me s desk before ask = not (has ask.mode (bars (union (others me s desk ask.node) before)))

-- the ask is of this node, and neither a lock of another client here nor a copy on its way here conflicts
abbrev pub is_local : ℕ → SetState → Desk → Ask → Bool
is_local me s desk ask =
    ask.node == me && not (has ask.mode (bars (union (other_modes s.held ask.client) (own_owed me s desk))))

-- the ask's node has no mode that conflicts
abbrev pub is_clear_at_home : ℕ → SetState → Desk → Ask → Bool
is_clear_at_home me s desk ask = not (has ask.mode (bars (modes_at me s desk ask.node)))

-- the ask is of another node, the other nodes cover it, and its own node has no mode that conflicts
abbrev pub is_copy : ℕ → SetState → Desk → Ask → Bool
is_copy me s desk ask =
    not (ask.node == me) && (covers (others me s desk ask.node) ask.mode && is_clear_at_home me s desk ask)

-- the ask is free, and either local or a copy
abbrev pub is_ready : ℕ → SetState → Desk → Modes → Ask → Bool
is_ready me s desk before ask = is_free me s desk before ask && (is_local me s desk ask || is_copy me s desk ask)

-- the ask is ready, or one of this node that was given up: that one leaves the queue, whatever conflicts with it
abbrev pub is_served : ℕ → SetState → Desk → Modes → Ask → Bool
is_served me s desk before ask = is_void me s ask || is_ready me s desk before ask

-- the first ask that is served, of those from place k on
abbrev pub next_from : ℕ → SetState → Desk → Modes → ℕ → List Ask → Option ℕ
next_from me s desk before k [] = None
next_from me s desk before k (ask ∷ rest) =
    if is_served me s desk before ask then Some k else next_from me s desk (with_mode before ask.mode) (k + 1) rest

abbrev pub next_at : ℕ → SetState → Option Desk → Option ℕ
next_at me s None = None
next_at me s (Some desk) = next_from me s desk no_modes 0 desk.queue

-- the place of the ask that node `me` serves next, where it has the desk
abbrev pub next_service : ℕ → SetState → Option ℕ
next_service me s = next_at me s s.desk

abbrev pub give_up : List Row → ℕ → Option Mode → List Row
give_up held client None = held
give_up held client (Some mode) = take_lock held client mode

-- the rows once the ask is granted
abbrev pub answered : List Row → Ask → List Row
answered held ask = add_lock (give_up held ask.client ask.gives_up) ask.client ask.mode

abbrev pub answer_by : ℕ → Ask → Option Mode → Event
answer_by set ask None = Grant ask.client set ask.mode
answer_by set ask (Some mode) = Change ask.client set mode ask.mode

-- the line that tells the grant
abbrev pub answer_event : ℕ → Ask → Event
answer_event set ask = answer_by set ask ask.gives_up

-- the rows once the ask is answered: one that was given up gets nothing
abbrev pub rows_after : SetState → Ask → List Row
rows_after s ask = if is_gone s ask.client then s.held else answered s.held ask

-- the line that tells the answer
abbrev pub end_event : ℕ → SetState → Ask → Event
end_event set s ask = if is_gone s ask.client then Void ask.client set ask.mode else answer_event set ask

-- the ask at place k of the queue
abbrev pub ask_at : SetState → ℕ → Ask
ask_at s k = slice_index_or (queue_of s) k no_ask

-- the ask at place k is answered and waits no more
abbrev pub served : SetState → ℕ → SetState
served s k = record s {
  held = rows_after s (ask_at s k);
  pending = without s.pending (ask_at s k).stamp;
  gone = without_gone s.gone (ask_at s k).client;
  desk = put_queue (remove (queue_of s) k) s.desk;
}

-- a local ask: its client gets the lock, unless the ask was given up
abbrev pub serve_local : ℕ → ℕ → SetState → Made
serve_local set k s = record { state = served s k; posts = []; events = end_event set s (ask_at s k) ∷ [] }

-- the entry of a node that was sent a copy for the ask
abbrev pub owing : Ask → Entry → Entry
owing ask entry = record entry { owed = entry.owed ++ record { stamp = ask.stamp; mode = ask.mode } ∷ [] }

abbrev pub owed_at : Ask → ℕ → Option Desk → Option Desk
owed_at ask k None = None
owed_at ask k (Some desk) =
    Some (record (put_entry desk ask.node (owing ask (entry_of desk ask.node))) { queue = remove desk.queue k })

-- a copy: the ask leaves the queue, its node is sent the mode and owes word of it
abbrev pub serve_copy : ℕ → Stamp → ℕ → Ask → SetState → Made
serve_copy set stamp k ask s = record {
  state = record s { desk = owed_at ask k s.desk };
  posts = post_of set stamp s ask.node (CopyBody ask) ∷ [];
  events = Copy set ask.node ask.client ask.mode ∷ [];
}

-- the ask at place k is served
abbrev pub serve_one : ℕ → Stamp → ℕ → SetState → Made
serve_one set stamp k s =
    if (ask_at s k).node == stamp.node then serve_local set k s else serve_copy set stamp k (ask_at s k) s

abbrev pub serve_step : ℕ → Stamp → (SetState → Made) → SetState → Option ℕ → Made
serve_step set stamp again s None = silent s
serve_step set stamp again s (Some k) = then_do (serve_one set stamp k s) again

abbrev pub serve_up_to : ℕ → ℕ → Stamp → SetState → Made
serve_up_to zero set stamp s = silent s
serve_up_to (suc n) set stamp s = serve_step set stamp (serve_up_to n set stamp) s (next_service stamp.node s)

-- services until there is none
abbrev pub serve : ℕ → Stamp → SetState → Made
serve set stamp s = serve_up_to (length (queue_of s)) set stamp s
