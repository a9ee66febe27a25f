-- What went through the ends of a session.
use Rattle.std.specs.Prelude.{◌≡◌, ℕ, List, [], ◌∷◌, ◌++◌, Option, Some, None}
use Rattle.rtrb.specs.Ring.{sent, received, known_items, producer_capacity, IsPair, SameProducer, SameConsumer}
use Rattle.lt_modes.specs.declared.command.Command.{Command}
use Rattle.lt_live.specs.declared.reply.Reply.{Reply}
use Rattle.lt_live.specs.declared.ends.Session.{Session}
use Rattle.lt_live.specs.declared.ends.Seat.{Seat}

-- the commands that were submitted
abbrev pub submitted : Session → List Command
submitted s = sent s.commands

-- the replies that were polled, and those that are known to come next
abbrev pub polled : Session → List Reply
polled s = received s.replies

abbrev pub known_replies : Session → List Reply
known_replies s = known_items s.replies

-- how many commands the ring has places for
abbrev pub places : Session → ℕ
places s = producer_capacity s.commands

-- the commands that were taken, and those that are known to come next
abbrev pub taken : Seat → List Command
taken seat = received seat.commands

abbrev pub known_commands : Seat → List Command
known_commands seat = known_items seat.commands

-- the one, and then the other
abbrev pub taken_or_known : Seat → List Command
taken_or_known seat = taken seat ++ known_commands seat

-- the replies that the ring was given
abbrev pub told_to : Seat → List Reply
told_to seat = sent seat.replies

-- those that were read from the log and found no place in the ring yet
abbrev pub outbox_replies : Seat → List Reply
outbox_replies seat = seat.waiting.items

-- all that the client was told, and is told next
abbrev pub due_to : Seat → List Reply
due_to seat = told_to seat ++ outbox_replies seat

-- the command in hand
abbrev pub command_held : Option Command → List Command
command_held None = []
command_held (Some command) = command ∷ []

-- the two ends of one session
abbrev pub AreTwoEnds : Session → Seat → Type 0
AreTwoEnds s seat = (seat.client ≡ s.client) × IsPair s.commands seat.commands × IsPair seat.replies s.replies

-- the session of the same client, with the same ends of rings and the same share
pub record SameSession (a b : Session) : Type 0 where
  pub script : b.script ≡ a.script
  pub client : b.client ≡ a.client
  pub place : b.place ≡ a.place
  pub share : b.share ≡ a.share
  pub commands : SameProducer a.commands b.commands
  pub replies : SameConsumer a.replies b.replies

-- the seat of the same client, with the same ends of rings
pub record SameSeat (a b : Seat) : Type 0 where
  pub client : b.client ≡ a.client
  pub commands : SameConsumer a.commands b.commands
  pub replies : SameProducer a.replies b.replies
