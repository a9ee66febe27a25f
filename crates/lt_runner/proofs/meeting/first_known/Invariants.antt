-- The loop over the rings.
use Rattle.lt_runner.specs.Kept.{NoneKnown}
use Rattle.lt_runner.proofs.meeting.first_known.Given as goal

abbrev pub invariant-loop-from : goal.invariant-loop-from
invariant-loop-from l = NoneKnown l.from l.fn.me l.fn.mail
