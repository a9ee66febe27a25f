use Rattle.std.proofs.Common.{◌≡◌, [], length, ◌-◌}
use Rattle.lt_live.specs.Seats.{TellsOn}
use Rattle.lt_live.specs.Words.{outbox_replies}
use Rattle.lt_live.proofs.ends.Seat.tell_further.Given as goal

abbrev pub invariant-loop-self : goal.invariant-loop-self
invariant-loop-self l = record {
  on : TellsOn l.log.entries l.initial.self l.self;
  empty : outbox_replies l.self ≡ [];
}

abbrev pub decreases-loop-self : goal.decreases-loop-self
decreases-loop-self l = length l.log.entries - l.self.moves
