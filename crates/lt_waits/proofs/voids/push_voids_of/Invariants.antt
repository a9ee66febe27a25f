use Rattle.std.proofs.Common.{◌≡◌, ◌++◌, All, length}
use Rattle.lt_spec.specs.Holdings.{waits_behind_void}
use Rattle.lt_world.specs.Fields.{world_of}
use Rattle.lt_waits.specs.Edges.{IsEdgeOf, pairs_with}
use Rattle.lt_waits.proofs.voids.push_voids_of.Given as goal

abbrev pub invariant-loop-other : goal.invariant-loop-other
invariant-loop-other l = record {
  pairs : l.edges.items ≡ l.fn.edges.items ++ pairs_with (waits_behind_void l.script (world_of l.world)) l.client l.other;
  within : All (IsEdgeOf (length l.script.clients)) l.edges.items;
}
