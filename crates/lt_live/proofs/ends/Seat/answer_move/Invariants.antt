use Rattle.std.proofs.Common.{length, take, ◌-◌, ◌≡◌, ◌≤◌, ◌++◌, List}
use Rattle.lt_mail.specs.Telling.{GrewIf}
use Rattle.lt_live.specs.declared.reply.Reply.{Reply}
use Rattle.lt_live.specs.Seats.{replies_in, OnlyTells}
use Rattle.lt_live.specs.Words.{told_to, outbox_replies}
use Rattle.lt_live.proofs.ends.Seat.answer_move.Given as goal

abbrev pub invariant-loop-self : goal.invariant-loop-self
invariant-loop-self l = record {
  rest : OnlyTells l.initial.self l.self;
  moves : l.self.moves ≡ l.initial.self.moves;
  told : (before : List Reply) → told_to l.initial.self ≡ before ++ replies_in l.initial.self.client (take l.initial.self.lines l.lines)
      → told_to l.self ≡ before ++ replies_in l.initial.self.client (take l.self.lines l.lines);
  waits : outbox_replies l.self ≡ outbox_replies l.initial.self;
  within : l.self.lines ≤ length l.lines;
  grew : GrewIf l.told (told_to l.initial.self) (told_to l.self);
}

abbrev pub decreases-loop-self : goal.decreases-loop-self
decreases-loop-self l = length l.lines - l.self.lines
