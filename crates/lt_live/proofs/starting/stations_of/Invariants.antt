-- The stations of the runners so far.
use Rattle.lt_live.specs.Stations.{AreSeatless}
use Rattle.lt_live.proofs.starting.stations_of.Given as goal

abbrev pub invariant-loop-runner : goal.invariant-loop-runner
invariant-loop-runner l = AreSeatless l.yielded l.stations.items
