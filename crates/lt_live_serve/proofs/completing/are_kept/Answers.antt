-- One station after the other.
use Rattle.std.proofs.Common.{subst, arith}
use Rattle.lt_live_serve.specs.Completing.{IsKept}
use Rattle.lt_live_serve.proofs.Turned.{next_kept, all_kept}
use Rattle.lt_live_serve.proofs.completing.are_kept.Goals as goal

pub loop-place-preserved : goal.loop-place-preserved
loop-place-preserved c =
    next_kept c.loop-place.place c.args.stations.now c.index-stations-place.result (omega (arith, c.loop-place-test.true)) c.loop-place.invariant
    (subst IsKept c.index-stations-place.is c.is_kept.ensures)

pub returns : goal.returns
returns c = all_kept c.loop-place.place c.args.stations.now (omega (arith, c.loop-place-test.false)) c.loop-place.invariant
