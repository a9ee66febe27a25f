-- The loop over the stations.
use Rattle.lt_live.specs.Served.{HaveKeptRunners}
use Rattle.lt_live.proofs.meeting.runners_kept.Given as goal

abbrev pub invariant-loop-k : goal.invariant-loop-k
invariant-loop-k l = HaveKeptRunners l.k l.fn.stations
