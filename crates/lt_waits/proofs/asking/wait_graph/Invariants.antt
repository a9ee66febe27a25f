use Rattle.std.proofs.Common.{◌≡◌, length}
use Rattle.lt_spec.specs.Holdings.{waits_for}
use Rattle.lt_world.specs.Fields.{world_of}
use Rattle.lt_waits.specs.Serves.{marks}
use Rattle.lt_waits.proofs.asking.wait_graph.Given as goal

abbrev pub invariant-loop-client : goal.invariant-loop-client
invariant-loop-client l = l.pairs.items ≡ marks (length l.script.clients) (waits_for l.script (world_of l.world)) l.client
