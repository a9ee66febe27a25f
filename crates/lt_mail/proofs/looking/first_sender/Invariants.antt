-- The loop over the senders.
use Rattle.lt_mail.specs.Passing.{LooksAtSome}
use Rattle.lt_mail.specs.Known.{NoneKnownBut}
use Rattle.lt_mail.proofs.looking.first_sender.Given as goal

abbrev pub invariant-loop-left : goal.invariant-loop-left
invariant-loop-left l = record {
  looked : LooksAtSome l.initial.ins l.ins;
  none : NoneKnownBut l.fn.me l.fn.me l.ins;
}

abbrev pub decreases-loop-left : goal.decreases-loop-left
decreases-loop-left l = l.left
