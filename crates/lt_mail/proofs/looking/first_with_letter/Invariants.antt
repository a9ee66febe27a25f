-- The loop over the rings.
use Rattle.lt_mail.specs.Passing.{LooksAtSome, SawNone}
use Rattle.lt_mail.proofs.looking.first_with_letter.Given as goal

abbrev pub invariant-loop-from : goal.invariant-loop-from
invariant-loop-from l = LooksAtSome l.initial.ins l.ins × SawNone l.from l.fn.me l.ins
