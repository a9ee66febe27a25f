-- What contracts see of a core, and what a step of it does.
use Rattle.std.specs.Prelude.{◌≡◌, ℕ, ◌+◌, ◌≤◌, ◌<◌, length, min, List, Option, Some, None, false, ◌==◌, if◌then◌else◌}
use Rattle.lt_modes.specs.State.{SetState, Desk, Made, silent, no_ask}
use Rattle.lt_modes.specs.Modes.{locks_in, count_of, locks_of}
use Rattle.lt_modes.specs.Serving.{queue_of, is_gone}
use Rattle.lt_modes.specs.Waiting.{waits, pending_ask}
use Rattle.lt_modes.specs.declared.ask.Ask.{Ask as RulesAsk}
use Rattle.lt_modes.specs.declared.mode.Mode.{Mode}
use Rattle.lt_modes.specs.Fits.{parked_asks, Numbers}
use Rattle.lt_modes.specs.Sound.{SoundSet}
use Rattle.lt_modes.specs.declared.stamp.Stamp.{Stamp}
use Rattle.lt_modes.specs.Granting.{can_grant}
use Rattle.lt_modes.specs.SetMove as rules
use Rattle.lt_held.specs.HeldData.{most_locks}
use Rattle.lt_desk.specs.DeskData.{DeskData, OutData, out_after}
use Rattle.lt_desk.specs.declared.letter.Body.{Body}
use Rattle.lt_desk.specs.declared.letter.Body.TheVariants.{Ask, Tell, Copy, Token, Freeze}
use Rattle.lt_core.specs.declared.set_command.SetCommand.{SetCommand}
use Rattle.lt_core.specs.declared.set_command.SetCommand.TheVariants.{Lock, Try, Unlock, Change, DropAll, Withdraw}
use Rattle.lt_core.specs.declared.set_command.Answer.{Answer}
use Rattle.lt_core.specs.declared.set_command.Answer.TheVariants as told

-- the node, the set and its state; for how many waiting_here asks there is room, for how many rows more, for how many letters more that
-- wait for the token, for how many tells, and for how many marks more of clients that gave up what they wait for
pub record CoreData : Type 0 where
  pub node : ℕ
  pub set : ℕ
  pub state : SetState
  pub room : ℕ
  pub row_room : ℕ
  pub parked_room : ℕ
  pub tell_room : ℕ
  pub mark_room : ℕ

-- the clients whose unanswered ask in the set was given up, and room for so many more
pub record MarksData : Type 0 where
  pub clients : List ℕ
  pub room : ℕ

abbrev pub desk_seen : Option DeskData → Option Desk
desk_seen None = None
desk_seen (Some d) = Some d.desk

-- the least of the rows' room and, where the desk is here, the places of its queue and what each node may owe
abbrev pub room_by : Option DeskData → ℕ → ℕ
room_by None rows = rows
room_by (Some d) rows = min d.room (min d.spare rows)

-- there is room for a tell where a box is spare
abbrev pub tells_by : {X : Type 0} → Option X → ℕ
tells_by None = 0
tells_by (Some box) = 1

-- the core after a rule, and what it sent out, are what the rule makes
pub record Does (made : Made) (old : CoreData) (had : OutData) (new : CoreData) (out : OutData) : Type 0 where
  pub node : new.node ≡ old.node
  pub set : new.set ≡ old.set
  pub state : new.state ≡ made.state
  pub sent : out ≡ out_after made had

-- how many asks wait here: in the queue, and parked
abbrev pub waiting_here : SetState → ℕ
waiting_here s = length (queue_of s) + length (parked_asks s)

abbrev pub epoch_of : Option Desk → ℕ
epoch_of None = 0
epoch_of (Some desk) = desk.epoch

abbrev pub freeze_number_of : Option Desk → ℕ
freeze_number_of None = 0
freeze_number_of (Some desk) = desk.number

-- in a move with this clock there is room for what waits here and k asks and tells more, and for the tell at its end
pub record HasRoom (k clock : ℕ) (core : CoreData) : Type 0 where
  pub rows : waiting_here core.state + k ≤ core.room
  pub parked : k ≤ core.parked_room
  pub locks : locks_in core.state.held + waiting_here core.state + k ≤ most_locks
  pub epoch : epoch_of core.state.desk < clock
  pub number : freeze_number_of core.state.desk < clock
  pub tells : 1 ≤ core.tell_room

-- one ask more may be unanswered, unless one of the client that was given up still is
abbrev pub LeavesAsk : ℕ → CoreData → Type 0
LeavesAsk client core = is_gone core.state client ≡ false → length core.state.pending < 16

-- room for an ask of the client, too
pub record RoomToAsk (client clock : ℕ) (core : CoreData) : Type 0 where
  pub move : HasRoom 2 clock core
  pub pending : LeavesAsk client core

-- room for a mark, too
pub record RoomToMark (clock : ℕ) (core : CoreData) : Type 0 where
  pub move : HasRoom 1 clock core
  pub marks : 1 ≤ core.mark_room

-- room for this desk, which a letter brings
pub record RoomForDesk (clock : ℕ) (core : CoreData) (d : DeskData) : Type 0 where
  pub places : waiting_here core.state + length d.desk.queue + 1 ≤ d.room
  pub owed : waiting_here core.state + length d.desk.queue + 1 ≤ d.spare
  pub rows : waiting_here core.state + length d.desk.queue + 1 ≤ core.row_room
  pub locks : locks_in core.state.held + waiting_here core.state + length d.desk.queue + 1 ≤ most_locks
  pub epoch : d.desk.epoch < clock
  pub number : d.desk.number < clock

-- room for what a letter brings, where it brings a desk
abbrev pub RoomForBody : ℕ → CoreData → Body → Type 0
RoomForBody clock core (Ask ask by_hoped) = Unit {0}
RoomForBody clock core (Tell tell) = Unit {0}
RoomForBody clock core (Copy ask) = Unit {0}
RoomForBody clock core (Token d) = RoomForDesk clock core d
RoomForBody clock core (Freeze news) = Unit {0}

-- memory for one move, to which a letter brings so many asks
pub record HasMemory (brought : ℕ) (core : CoreData) : Type 0 where
  pub asks : waiting_here core.state + brought + 2 ≤ core.room
  pub rows : waiting_here core.state + brought + 2 ≤ core.row_room
  pub parked : 2 ≤ core.parked_room
  pub tells : 1 ≤ core.tell_room

-- there is room for no less than before
pub record KeepsRoom (old new : CoreData) : Type 0 where
  pub asks : old.room ≤ new.room
  pub rows : old.row_room ≤ new.row_room
  pub parked : old.parked_room ≤ new.parked_room
  pub tells : old.tell_room ≤ new.tell_room
  pub marks : old.mark_room ≤ new.mark_room

-- What the soundness of a set gives of the premises of a move.

-- with memory, and few locks, a sound set has room for a move with a later clock
abbrev pub MovesHaveRoom : Type 0
MovesHaveRoom =
    (numbers : Numbers) (q clock now : ℕ) (core : CoreData)
    → SoundSet numbers q false false clock core.state
    → clock < now
    → locks_in core.state.held + waiting_here core.state + 2 ≤ most_locks
    → HasMemory 0 core
    → HasRoom 2 now core

-- A command at one set: its answer, and the move that it is.

-- an ask for the mode, as far as an older one is compared with it
abbrev pub wish : Mode → Option Mode → RulesAsk
wish mode gives_up = record no_ask { mode = mode; gives_up = gives_up }

-- what a client is told that can't have the mode at once: it waits, unless an ask of it that was given up is still here,
-- and wants something else
abbrev pub told_to_wait : ℕ → Mode → Option Mode → SetState → Answer
told_to_wait client mode gives_up s =
    if is_gone s client
    then (if rules.same_wish (wish mode gives_up) (pending_ask s client) then told.Waits else told.Withheld)
    else told.Waits

-- what the client is told
abbrev pub answer_of : ℕ → ℕ → SetCommand → SetState → Answer
answer_of node client (Lock mode) s =
    if can_grant node s client mode then told.Granted else told_to_wait client mode None s
answer_of node client (Try mode) s = if can_grant node s client mode then told.True else told.False
answer_of node client (Unlock mode) s = if count_of s.held client mode == 0 then told.NotHeld else told.Unlocked
answer_of node client (Change gives_up mode) s =
    if count_of s.held client gives_up == 0
    then told.NotHeld
    else (if can_grant node s client mode then told.Changed else told_to_wait client mode (Some gives_up) s)
answer_of node client DropAll s = told.Dropped (locks_of s.held client)
answer_of node client (Withdraw other) s = if waits s other then told.True else told.False

-- what the command does, before the end of the move
abbrev pub commanded : Stamp → ℕ → SetCommand → ℕ → SetState → Made
commanded stamp client (Lock mode) set s = rules.locked set stamp client mode s
commanded stamp client (Try mode) set s = rules.tried set stamp client mode s
commanded stamp client (Unlock mode) set s = rules.unlocked set client mode s
commanded stamp client (Change gives_up mode) set s = rules.changed set stamp client gives_up mode s
commanded stamp client DropAll set s = silent (rules.dropped client s)
commanded stamp client (Withdraw other) set s = rules.withdrawn set client other s

-- the move that the command is
abbrev pub move_of : Stamp → ℕ → SetCommand → ℕ → SetState → Made
move_of stamp client (Lock mode) set s = rules.lock set stamp client mode s
move_of stamp client (Try mode) set s = rules.try set stamp client mode s
move_of stamp client (Unlock mode) set s = rules.unlock set stamp client mode s
move_of stamp client (Change gives_up mode) set s = rules.change set stamp client gives_up mode s
move_of stamp client DropAll set s = rules.drop set stamp client s
move_of stamp client (Withdraw other) set s = rules.withdraw set stamp client other s

-- room for the command: a lock and a change may make the client wait, and a withdraw leaves a mark
abbrev pub RoomForCommand : ℕ → ℕ → CoreData → SetCommand → Type 0
RoomForCommand client clock core (Lock mode) = RoomToAsk client clock core
RoomForCommand client clock core (Try mode) = HasRoom 2 clock core
RoomForCommand client clock core (Unlock mode) = HasRoom 1 clock core
RoomForCommand client clock core (Change gives_up mode) = RoomToAsk client clock core
RoomForCommand client clock core DropAll = HasRoom 1 clock core
RoomForCommand client clock core (Withdraw other) = RoomToMark clock core
