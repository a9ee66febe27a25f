use Rattle.std.proofs.Common.{◌≡◌, All, length}
use Rattle.lt_spec.specs.Holdings.{waits_behind_void}
use Rattle.lt_world.specs.Fields.{world_of}
use Rattle.lt_waits.specs.Edges.{IsEdgeOf}
use Rattle.lt_waits.proofs.Pairs.{pairs_so_far}
use Rattle.lt_waits.proofs.voids.void_pairs.Given as goal

abbrev pub invariant-loop-client : goal.invariant-loop-client
invariant-loop-client l = record {
  pairs : l.edges.items ≡ pairs_so_far (length l.script.clients) (waits_behind_void l.script (world_of l.world)) l.client;
  within : All (IsEdgeOf (length l.script.clients)) l.edges.items;
}
