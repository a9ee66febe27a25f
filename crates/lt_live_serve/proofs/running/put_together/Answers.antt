-- One station more.
use Rattle.std.proofs.Common.{rules, ◌<◌, length, arith}
use Rattle.lt_live_serve.proofs.Parted.{next_put, some_bench, first_together}
use Rattle.lt_live_serve.proofs.running.put_together.Goals as goal

pub loop-runners-preserved : goal.loop-runners-preserved
loop-runners-preserved c =
    let stations = c.loop-runners.stations.items in
    let runners = c.loop-runners.runners.items in
    let benches = c.loop-runners.benches.items in
    let before = c.loop-runners.invariant in
    let some : 0 < length runners = omega (arith, c.remove-runner.ensures.len, c.loop-runners.runners.ok.0, c.remove-runner.new.self.ok.0) in
    let put =
    next_put stations runners c.args.runners.items benches c.args.benches.items c.from_parts.result before.runners before.seats before.together some
    c.remove-runner.result c.remove-bench.result c.remove-runner.ensures.value c.remove-bench.ensures.value c.from_parts.ensures
    c.push_reserved.new.self.items c.remove-runner.new.self.items c.remove-bench.new.self.items c.push_reserved.ensures.items
    c.remove-runner.ensures.items c.remove-bench.ensures.items in
    record { runners = put.runners; seats = put.seats; together = put.together; room = search rules }

pub remove-bench-requires : goal.remove-bench-requires
remove-bench-requires c =
    let some : 0 < length c.loop-runners.runners.items =
    omega (arith, c.remove-runner.ensures.len, c.loop-runners.runners.ok.0, c.remove-runner.new.self.ok.0) in
    omega (arith, some_bench c.loop-runners.runners.items c.loop-runners.benches.items c.loop-runners.invariant.together some, c.loop-runners.benches.ok.0)

pub from_parts-requires : goal.from_parts-requires
from_parts-requires c =
    let some : 0 < length c.loop-runners.runners.items =
    omega (arith, c.remove-runner.ensures.len, c.loop-runners.runners.ok.0, c.remove-runner.new.self.ok.0) in
    first_together c.loop-runners.runners.items c.loop-runners.benches.items c.remove-runner.result c.remove-bench.result c.loop-runners.invariant.together
    some c.remove-runner.ensures.value c.remove-bench.ensures.value
