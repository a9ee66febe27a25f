-- How far a client was told of a log.
use Rattle.std.specs.Prelude.{◌≤◌, ℕ, List, [], ◌++◌, Option, Some, None, length, take, slice_get, ◌==◌, if◌then◌else◌, ◌≡◌, ◌+◌, ◌⊎◌, ◌<◌, Bool, true, false, ◌∷◌, filter_map}
use mathlib.Core.List.{IsPrefix}
use Rattle.rtrb.specs.Ring.{known_free, producer_capacity}
use Rattle.lt_modes.specs.declared.event.Event.{Event}
use Rattle.lt_modes.specs.declared.event.Event.TheVariants.{Grant, Wait, Try, Unlock, NotHeld as NoLock, Change, DropAll, Busy as Waiting, Withdraw, Withdrawn as GivenUp, Void, Withheld as HeldBack, Copy, Freeze, Token}
use Rattle.lt_modes.specs.declared.command.Command.{Command}
use Rattle.lt_spec.specs.Holdings.{lines_of}
use Rattle.lt_spec.specs.World.{Logged}
use Rattle.lt_log.specs.LogData.{LogData}
use Rattle.lt_merge.specs.Merging.{events_at}
use Rattle.lt_live.specs.declared.reply.Reply.{Reply}
use Rattle.lt_live.specs.declared.reply.Reply.TheVariants.{Granted, True, False, Unlocked, NotHeld, Changed, Dropped, Busy, Withdrawn, Withheld}
use Rattle.lt_live.specs.declared.ends.Session.{Session}
use Rattle.lt_live.specs.declared.ends.Seat.{Seat}
use Rattle.lt_live.specs.Words.{submitted, polled, known_replies, taken, known_commands, taken_or_known, told_to, outbox_replies, due_to, command_held, SameSession, SameSeat}

abbrev pub lines_if : Option Logged → List Event
lines_if None = []
lines_if (Some entry) = entry.events

-- the lines of the move at this place; none where the log has no such move
abbrev pub lines_at : List Logged → ℕ → List Event
lines_at log k = lines_if (slice_get log k)

-- the lines of the first moves, and so many of the next one
abbrev pub lines_up_to : List Logged → ℕ → ℕ → List Event
lines_up_to log moves lines = lines_of (take moves log) ++ take lines (lines_at log moves)

-- the log has so many moves, and the next one so many lines
pub record IsCursor (log : List Logged) (moves lines : ℕ) : Type 0 where
  pub inside : moves ≤ length log
  pub within : lines ≤ length (lines_at log moves)

-- the log has the lines that the seat has read, and keeps the moves that it hasn't
abbrev pub IsCursorOf : LogData → Seat → Type 0
IsCursorOf log seat = IsCursor log.entries seat.moves seat.lines × (log.gone ≤ seat.moves)

-- the last move of the log has this line alone
pub record IsLastLine (log : List Logged) (line : Event) : Type 0 where
  pub move : ℕ
  pub last : move + 1 ≡ length log
  pub alone : events_at log move ≡ Some (line ∷ [])

-- What lines say to a client.

-- the reply, where the client is this one
abbrev pub told_if : ℕ → ℕ → Reply → Option Reply
told_if client other reply = if other == client then Some reply else None

-- what the line says to the client: of a drop, a busy one and a withdraw, to the first client that it names; to wait is no
-- reply, nor is the answer to an ask that was given up
abbrev pub reply_to : ℕ → Event → Option Reply
reply_to client (Grant other s mode) = told_if client other Granted
reply_to client (Wait other s mode) = None
reply_to client (Try other s mode got) = told_if client other (if got then True else False)
reply_to client (Unlock other s mode) = told_if client other Unlocked
reply_to client (NoLock other s mode) = told_if client other NotHeld
reply_to client (Change other s gives_up mode) = told_if client other Changed
reply_to client (DropAll other whose s count) = told_if client other (Dropped count)
reply_to client (Waiting other whose s) = told_if client other Busy
reply_to client (Withdraw other whose s got) = told_if client other (if got then True else False)
reply_to client (GivenUp other s mode) = told_if client other Withdrawn
reply_to client (Void other s mode) = None
reply_to client (HeldBack other s mode) = told_if client other Withheld
reply_to client (Copy s to other mode) = None
reply_to client (Freeze s to number modes) = None
reply_to client (Token s to epoch) = None

-- the client's replies in these lines, in order
abbrev pub replies_in : ℕ → List Event → List Reply
replies_in client lines = filter_map (reply_to client) lines

-- What a station keeps of a session, and what it does with it.

-- nothing happened but that replies may have gone into the ring
pub record OnlyTells (a b : Seat) : Type 0 where
  pub same : SameSeat a b
  pub taken : taken b ≡ taken a
  pub hand : b.hand ≡ a.hand
  pub known : known_commands b ≡ known_commands a
  pub places : known_free a.replies + length (told_to a) ≤ known_free b.replies + length (told_to b)
  pub fewer : length (outbox_replies b) ≤ length (outbox_replies a)

-- nothing happened but that a command may have been taken into the hand; none was, where replies wait in the outbox. What is
-- known and isn't taken stays known
pub record TakesIn (a b : Seat) : Type 0 where
  pub same : SameSeat a b
  pub told : (told_to b ≡ told_to a) × (outbox_replies b ≡ outbox_replies a)
  pub cursor : (b.moves ≡ a.moves) × (b.lines ≡ a.lines)
  pub taken : (list : List Command) → taken a ≡ list ++ command_held a.hand → taken b ≡ list ++ command_held b.hand
  pub none : a.hand ≡ None → b.hand ≡ None → (known_commands a ≡ []) ⊎ (0 < length (outbox_replies a))
  pub known : IsPrefix (taken_or_known a) (taken_or_known b)
  pub stays : (command : Command) → a.hand ≡ Some command → b ≡ a
  pub owing : 0 < length (outbox_replies a) → b ≡ a

-- the reply that the line says to the client went into the ring
pub record HasTold (line : Event) (a b : Seat) : Type 0 where
  pub rest : OnlyTells a b
  pub told : told_to b ≡ told_to a ++ replies_in a.client (line ∷ [])
  pub waits : outbox_replies b ≡ outbox_replies a
  pub moves : b.moves ≡ a.moves
  pub lines : b.lines ≡ a.lines + 1

-- the ring has no place for it
pub record HasNoPlace (a b : Seat) : Type 0 where
  pub rest : OnlyTells a b
  pub told : told_to b ≡ told_to a
  pub waits : outbox_replies b ≡ outbox_replies a
  pub moves : b.moves ≡ a.moves
  pub lines : b.lines ≡ a.lines
  pub full : known_free b.replies ≡ 0

abbrev pub ToldNext : Bool → Event → Seat → Seat → Type 0
ToldNext true line a b = HasTold line a b
ToldNext false line a b = HasNoPlace a b

abbrev pub MoveEnds : Bool → List Event → Seat → Type 0
MoveEnds true lines b = b.lines ≡ length lines
MoveEnds false lines b = known_free b.replies ≡ 0

-- replies of further lines of a move went into the ring, in order: of all of them, or until the ring had no place
pub record TellsMove (all : Bool) (lines : List Event) (a b : Seat) : Type 0 where
  pub rest : OnlyTells a b
  pub moves : b.moves ≡ a.moves
  pub told : (before : List Reply) → told_to a ≡ before ++ replies_in a.client (take a.lines lines)
      → told_to b ≡ before ++ replies_in a.client (take b.lines lines)
  pub waits : outbox_replies b ≡ outbox_replies a
  pub within : b.lines ≤ length lines
  pub ends : MoveEnds all lines b

abbrev pub OutboxEnds : Bool → Seat → Type 0
OutboxEnds true b = outbox_replies b ≡ []
OutboxEnds false b = known_free b.replies ≡ 0

-- replies went from the outbox into the ring, in order: all of them, or until the ring had no place
pub record TellsOutbox (all : Bool) (a b : Seat) : Type 0 where
  pub rest : OnlyTells a b
  pub due : due_to b ≡ due_to a
  pub moves : b.moves ≡ a.moves
  pub lines : b.lines ≡ a.lines
  pub ends : OutboxEnds all b

-- replies went into the ring, in order: those of the outbox, and then those of further lines of the log
pub record TellsOn (log : List Logged) (a b : Seat) : Type 0 where
  pub rest : OnlyTells a b
  pub moves : a.moves ≤ b.moves
  pub due : due_to a ≡ replies_in a.client (lines_up_to log a.moves a.lines)
      → due_to b ≡ replies_in a.client (lines_up_to log b.moves b.lines)
  pub cursor : IsCursor log b.moves b.lines

-- no reply waits in the outbox, and the client was told of all moves of the log
abbrev pub HasToldAll : List Logged → Seat → Type 0
HasToldAll log seat = (outbox_replies seat ≡ []) × (seat.moves ≡ length log)

-- of all lines, or until the ring had no place
pub record TellsSeat (log : List Logged) (a b : Seat) : Type 0 where
  pub on : TellsOn log a b
  pub stops : HasToldAll log b ⊎ (known_free b.replies ≡ 0)

-- the reply that the line says to the client was put behind the outbox
pub record HasReadLine (line : Event) (a b : Seat) : Type 0 where
  pub seat : b ≡ record a { waiting = b.waiting; lines = a.lines + 1 }
  pub waits : outbox_replies b ≡ outbox_replies a ++ replies_in a.client (line ∷ [])

-- there was no memory for it
pub record HasNotReadLine (a b : Seat) : Type 0 where
  pub seat : b ≡ record a { waiting = b.waiting }
  pub waits : outbox_replies b ≡ outbox_replies a

-- replies of further lines of a move were put behind the outbox, in order
pub record ReadsMove (lines : List Event) (a b : Seat) : Type 0 where
  pub seat : b ≡ record a { waiting = b.waiting; lines = b.lines }
  pub due : (before : List Reply) → due_to a ≡ before ++ replies_in a.client (take a.lines lines)
      → due_to b ≡ before ++ replies_in a.client (take b.lines lines)
  pub within : b.lines ≤ length lines

-- replies of further lines of the log were put behind the outbox, in order, and nothing else happened
pub record HasReadOn (log : List Logged) (a b : Seat) : Type 0 where
  pub seat : b ≡ record a { waiting = b.waiting; moves = b.moves; lines = b.lines }
  pub moves : a.moves ≤ b.moves
  pub due : due_to a ≡ replies_in a.client (lines_up_to log a.moves a.lines)
      → due_to b ≡ replies_in a.client (lines_up_to log b.moves b.lines)
  pub cursor : IsCursor log a.moves a.lines → IsCursor log b.moves b.lines

-- of all lines
pub record ReadsAll (log : List Logged) (a b : Seat) : Type 0 where
  pub due : due_to a ≡ replies_in a.client (lines_up_to log a.moves a.lines) → due_to b ≡ replies_in a.client (lines_of log)
  pub moves : b.moves ≡ length log

-- what was taken is the client's list, and then the command in hand; what was told, and then what waits in the outbox, are
-- its replies in the log so far
pub record IsSeat (list : List Command) (log : List Logged) (client : ℕ) (seat : Seat) : Type 0 where
  pub client_is : seat.client ≡ client
  pub taken : taken seat ≡ list ++ command_held seat.hand
  pub due : due_to seat ≡ replies_in client (lines_up_to log seat.moves seat.lines)
  pub cursor : IsCursor log seat.moves seat.lines

-- all that is in the rings is known to both ends
pub record KnowAll (s : Session) (seat : Seat) : Type 0 where
  pub commands : taken seat ++ known_commands seat ≡ submitted s
  pub replies : polled s ++ known_replies s ≡ told_to seat

-- the session knows as many replies as their ring has places for
abbrev pub IsFullOfReplies : Session → Seat → Type 0
IsFullOfReplies s seat = producer_capacity seat.replies ≤ length (known_replies s)

-- nothing happened but that replies may have gone into the ring, and that each end may know more
pub record LooksBeside (log : List Logged) (s t : Session) (a b : Seat) : Type 0 where
  pub session : SameSession s t
  pub submitted : (submitted t ≡ submitted s) × (t.left ≡ s.left)
  pub polled : polled t ≡ polled s
  pub known : IsPrefix (known_replies s) (known_replies t)
  pub seat : SameSeat a b
  pub taken : (taken b ≡ taken a) × (b.hand ≡ a.hand)
  pub known_more : IsPrefix (known_commands a) (known_commands b)
  pub fewer : length (outbox_replies b) ≤ length (outbox_replies a)
  pub moves : a.moves ≤ b.moves
  pub due : due_to a ≡ replies_in a.client (lines_up_to log a.moves a.lines)
      → due_to b ≡ replies_in a.client (lines_up_to log b.moves b.lines)
  pub cursor : IsCursor log b.moves b.lines

-- the client's list is a first part of what was submitted, and what was polled a first part of its replies
pub record IsServedSession (list : List Command) (lines : List Event) (client : ℕ) (s : Session) : Type 0 where
  pub commands : IsPrefix list (submitted s)
  pub replies : IsPrefix (polled s) (replies_in client lines)

-- so it is at the end; the next command is the one in hand, and all others are still in the ring
pub record IsSettledSeat (list : List Command) (lines : List Event) (client : ℕ) (s t : Session) (seat : Seat) : Type 0 where
  pub served : IsServedSession list lines client t
  pub all : submitted t ≡ (list ++ command_held seat.hand) ++ known_commands seat
  pub same : submitted t ≡ submitted s

-- the client's list, then the command in hand, are all that was taken of what was submitted; the others are in the ring
pub record HasAllCommands (list : List Command) (s : Session) (seat : Seat) : Type 0 where
  pub taken : taken seat ≡ list ++ command_held seat.hand
  pub in_ring : List Command
  pub all : submitted s ≡ (list ++ command_held seat.hand) ++ in_ring

-- no command was taken, and that in hand stays there
pub record TakesNoCommand (a b : Seat) : Type 0 where
  pub client : b.client ≡ a.client
  pub taken : taken b ≡ taken a
  pub hand : b.hand ≡ a.hand
