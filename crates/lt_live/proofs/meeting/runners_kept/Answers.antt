-- One runner more.
use Rattle.std.proofs.Common.{subst, arith}
use Rattle.lt_live.specs.Stations.{StationData}
use Rattle.lt_live.specs.Served.{HasKeptRunner}
use Rattle.lt_live.proofs.StationPairs.{next_kept, kept_to}
use Rattle.lt_live.proofs.meeting.runners_kept.Goals as goal

pub loop-k-preserved : goal.loop-k-preserved
loop-k-preserved c =
    next_kept c.loop-k.k c.args.stations.now c.index-stations-k.result (omega (arith, c.loop-k.auto.k-end, c.loop-k-test.true)) c.loop-k.invariant
    (subst (λ (x : StationData). HasKeptRunner x) c.index-stations-k.is c.runner_kept.ensures)

pub returns : goal.returns
returns c = kept_to c.loop-k.k c.args.stations.now (omega (arith, c.loop-k.auto.k-end, c.loop-k-test.false)) c.loop-k.invariant
