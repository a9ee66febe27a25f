use Rattle.std.proofs.Common.{◌≡◌, length}
use Rattle.lt_live.specs.Seats.{OnlyTells}
use Rattle.lt_live.specs.Words.{outbox_replies, due_to}
use Rattle.lt_live.proofs.ends.Seat.tell_waiting.Given as goal

abbrev pub invariant-loop-self : goal.invariant-loop-self
invariant-loop-self l = record {
  rest : OnlyTells l.initial.self l.self;
  due : due_to l.self ≡ due_to l.initial.self;
  moves : l.self.moves ≡ l.initial.self.moves;
  lines : l.self.lines ≡ l.initial.self.lines;
}

abbrev pub decreases-loop-self : goal.decreases-loop-self
decreases-loop-self l = length (outbox_replies l.self)
