-- A move of one node for one set: what each command of a client does, and the end of a move.
use Rattle.lt_modes.specs.Waiting.{pending_ask, waits}
use Rattle.std.specs.Prelude.{Bool, true, false, ◌&&◌, ◌==◌, ℕ, [], ◌∷◌, ◌++◌, Option, Some, None, if◌then◌else◌}
use Rattle.lt_modes.specs.declared.stamp.Stamp.{Stamp}
use Rattle.lt_modes.specs.declared.ask.Ask.{Ask}
use Rattle.lt_modes.specs.Modes.{bars, same_modes, held_modes, count_of, add_lock, take_lock, without_client, same_mode}
use Rattle.lt_modes.specs.State.{SetState, Desk, ParkedAsk, ParkedTell, Made, silent, then_do, no_ask, same_choice}
use Rattle.lt_modes.specs.Serving.{serve, give_up, is_gone, without_gone}
use Rattle.lt_modes.specs.HandingOver.{hand_over}
use Rattle.lt_modes.specs.Freezing.{freeze}
use Rattle.lt_modes.specs.Granting.{is_holder, can_grant}
use Rattle.lt_modes.specs.declared.mode.Mode.{Mode}
use Rattle.lt_modes.specs.declared.event.Event.{Event}
use Rattle.lt_modes.specs.declared.event.Event.TheVariants.{Grant, Wait, Try, Unlock, NotHeld, Change, Withdraw, Withdrawn, Withheld}
use Rattle.lt_modes.specs.Routing.{route}
use Rattle.lt_modes.specs.Telling.{tell_of}

-- The end of a move for a set that it touched.

-- the node tells the desk what it holds, and its charge is what it told
abbrev pub make_tell : ℕ → Stamp → SetState → Made
make_tell set stamp s =
    route set stamp false (ParkedTell (tell_of stamp s)) (record s { charge = held_modes s.held })

-- a tell where the held modes bar other modes than the charge does
abbrev pub tell : ℕ → Stamp → SetState → Made
tell set stamp s =
    if same_modes (bars (held_modes s.held)) (bars s.charge) then silent s else make_tell set stamp s

-- the desk's turn: services, then freezes, then the token
abbrev pub attend : ℕ → Stamp → SetState → Made
attend set stamp s = then_do (then_do (serve set stamp s) (freeze set stamp)) (hand_over set stamp)

abbrev pub finish_by : ℕ → Stamp → SetState → Option Desk → Made
finish_by set stamp s None = tell set stamp s
finish_by set stamp s (Some desk) = attend set stamp s

-- the end of a move: the desk's turn where it is here, else a tell where one is due
abbrev pub finish : ℕ → Stamp → SetState → Made
finish set stamp s = finish_by set stamp s s.desk

-- What a command does, before the end of its move.

-- this state and this answer
abbrev pub answers : Event → SetState → Made
answers event s = record { state = s; posts = []; events = event ∷ [] }

-- the client gets the lock, and gives up one where it changes a mode
abbrev pub given : ℕ → Mode → Option Mode → SetState → SetState
given client mode gives_up s = record s { held = add_lock (give_up s.held client gives_up) client mode }

-- the client gets the lock
abbrev pub granted : ℕ → ℕ → Mode → SetState → Made
granted set client mode s = answers (Grant client set mode) (given client mode None s)

-- the ask of a client that isn't granted the mode at once
abbrev pub ask_of : Stamp → ℕ → Mode → Option Mode → SetState → Ask
ask_of stamp client mode gives_up s = record {
  client = client;
  node = stamp.node;
  mode = mode;
  gives_up = gives_up;
  holder = is_holder s client;
  stamp = stamp;
}

-- the client waits, and its ask goes to the desk
abbrev pub asked : ℕ → Stamp → Ask → SetState → Made
asked set stamp ask s =
    then_do
    (answers (Wait ask.client set ask.mode) (record s { pending = s.pending ++ ask ∷ [] }))
    (route set stamp false (ParkedAsk ask))

-- the asks want the same, and give up the same
abbrev pub same_wish : Ask → Option Ask → Bool
same_wish ask None = false
same_wish ask (Some old) = same_mode ask.mode old.mode && same_choice ask.gives_up old.gives_up

-- the client has an ask here that was given up: it takes up one that wants the same; for another it can't ask
abbrev pub retaken : ℕ → Ask → SetState → Made
retaken set ask s =
    if same_wish ask (pending_ask s ask.client)
    then answers (Wait ask.client set ask.mode) (record s { gone = without_gone s.gone ask.client })
    else answers (Withheld ask.client set ask.mode) s

-- the client asks, unless an ask of it that was given up is still here
abbrev pub asked_or_not : ℕ → Stamp → Ask → SetState → Made
asked_or_not set stamp ask s = if is_gone s ask.client then retaken set ask s else asked set stamp ask s

abbrev pub locked : ℕ → Stamp → ℕ → Mode → SetState → Made
locked set stamp client mode s =
    if can_grant stamp.node s client mode
    then granted set client mode s
    else asked_or_not set stamp (ask_of stamp client mode None s) s

abbrev pub tried : ℕ → Stamp → ℕ → Mode → SetState → Made
tried set stamp client mode s =
    if can_grant stamp.node s client mode
    then answers (Try client set mode true) (given client mode None s)
    else answers (Try client set mode false) s

abbrev pub unlocked : ℕ → ℕ → Mode → SetState → Made
unlocked set client mode s =
    if count_of s.held client mode == 0
    then answers (NotHeld client set mode) s
    else answers (Unlock client set mode) (record s { held = take_lock s.held client mode })

abbrev pub change_held : ℕ → Stamp → ℕ → Mode → Mode → SetState → Made
change_held set stamp client gives_up mode s =
    if can_grant stamp.node s client mode
    then answers (Change client set gives_up mode) (given client mode (Some gives_up) s)
    else asked_or_not set stamp (ask_of stamp client mode (Some gives_up) s) s

abbrev pub changed : ℕ → Stamp → ℕ → Mode → Mode → SetState → Made
changed set stamp client gives_up mode s =
    if count_of s.held client gives_up == 0
    then answers (NotHeld client set gives_up) s
    else change_held set stamp client gives_up mode s

-- the client has no lock in the set any more
abbrev pub dropped : ℕ → SetState → SetState
dropped client s = record s { held = without_client s.held client }

-- the mode that the ask wants
abbrev pub mode_wanted : Option Ask → Mode
mode_wanted None = no_ask.mode
mode_wanted (Some ask) = ask.mode

-- what the other client waits for here is given up: its ask stays where it stands
abbrev pub given_up : ℕ → ℕ → ℕ → SetState → Made
given_up set client other s = record {
  state = record s { gone = other ∷ s.gone };
  posts = [];
  events = Withdrawn other set (mode_wanted (pending_ask s other)) ∷ Withdraw client other set true ∷ [];
}

abbrev pub withdrawn : ℕ → ℕ → ℕ → SetState → Made
withdrawn set client other s =
    if waits s other then given_up set client other s else answers (Withdraw client other set false) s

-- The whole move.

-- a `lock` of the client at its node, in a move with this stamp
abbrev pub lock : ℕ → Stamp → ℕ → Mode → SetState → Made
lock set stamp client mode s = then_do (locked set stamp client mode s) (finish set stamp)

-- a `try` of the client
abbrev pub try : ℕ → Stamp → ℕ → Mode → SetState → Made
try set stamp client mode s = then_do (tried set stamp client mode s) (finish set stamp)

-- an `unlock` of the client
abbrev pub unlock : ℕ → Stamp → ℕ → Mode → SetState → Made
unlock set stamp client mode s = then_do (unlocked set client mode s) (finish set stamp)

-- a `change` of the client from one mode to another
abbrev pub change : ℕ → Stamp → ℕ → Mode → Mode → SetState → Made
change set stamp client gives_up mode s = then_do (changed set stamp client gives_up mode s) (finish set stamp)

-- the part of a `drop` in one set of the family: all locks of the client go; the answer stands before all sets
abbrev pub drop : ℕ → Stamp → ℕ → SetState → Made
drop set stamp client s = finish set stamp (dropped client s)

-- a `withdraw`: the client gives up what another one of its node, or it itself, waits for here
abbrev pub withdraw : ℕ → Stamp → ℕ → ℕ → SetState → Made
withdraw set stamp client other s = then_do (withdrawn set client other s) (finish set stamp)
