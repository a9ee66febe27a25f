use Rattle.std.proofs.Common.{◌≡◌, [], length, ◌-◌}
use Rattle.lt_mail.specs.Telling.{GrewIf}
use Rattle.lt_live.specs.Seats.{TellsOn}
use Rattle.lt_live.specs.Words.{outbox_replies, told_to}
use Rattle.lt_live.proofs.ends.Seat.answer_further.Given as goal

abbrev pub invariant-loop-self : goal.invariant-loop-self
invariant-loop-self l = record {
  on : TellsOn l.log.entries l.initial.self l.self;
  empty : outbox_replies l.self ≡ [];
  grew : GrewIf l.told (told_to l.initial.self) (told_to l.self);
}

abbrev pub decreases-loop-self : goal.decreases-loop-self
decreases-loop-self l = length l.log.entries - l.self.moves
