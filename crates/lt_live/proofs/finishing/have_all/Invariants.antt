-- The first stations have forgotten nothing.
use Rattle.lt_live.proofs.WholeRuns.{HaveAllFirst}
use Rattle.lt_live.proofs.finishing.have_all.Given as goal

abbrev pub invariant-loop-place : goal.invariant-loop-place
invariant-loop-place l = HaveAllFirst l.place l.fn.stations
