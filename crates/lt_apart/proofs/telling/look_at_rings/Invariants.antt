-- The rings of the first nodes were looked at.
use Rattle.lt_mail.specs.Star.{AreFarEnds}
use Rattle.lt_apart.specs.Telling.{HaveEndsLooked}
use Rattle.lt_apart.proofs.telling.look_at_rings.Given as goal

abbrev pub invariant-loop-node : goal.invariant-loop-node
invariant-loop-node l = record {
  ends : AreFarEnds l.station.runner.mail l.far;
  looked : HaveEndsLooked l.node l.initial.station l.station l.initial.far l.far;
}
