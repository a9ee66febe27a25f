use Rattle.std.proofs.Common.{◌∙◌}
use Rattle.lt_spec.specs.Holdings.{waits_for, waits_behind_void}
use Rattle.lt_world.specs.Fields.{world_of}
use Rattle.lt_waits.proofs.Pairs.{report_with}
use Rattle.lt_waits.proofs.reporting.report.Goals as goal

pub returns : goal.returns
returns c =
    let script = c.args.script.now in
    let graph = waits_for script (world_of c.args.world.now) in
    report_with script _ graph (waits_behind_void script (world_of c.args.world.now)) c.deref.result.now c.in_ok-out.out.items c.push_voids.new.out.items
    (c.deref.ensures.value ∙ c.in_ok-voids.ensures.pairs) (c.in_ok-out.ensures graph c.in_ok-graph.ensures.told) c.in_ok-push_voids.ensures
