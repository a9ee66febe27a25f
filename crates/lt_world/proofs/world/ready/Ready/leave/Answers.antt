use Rattle.std.proofs.Common.{List, sym, subst}
use Rattle.lt_spec.specs.World.{Logged, world_after}
use Rattle.lt_world.specs.Fields.{AreCounted, AreAtMost, AreTurns}
use Rattle.lt_world.proofs.world.ready.Ready.leave.Goals as goal

pub whole-requires : goal.whole-requires
whole-requires c =
    let s = c.self.inside.parts in
    let same = sym c.leave.ensures.entries in
    record {
      holds = c.leave.ensures.holds;
      counted = subst (AreCounted s.script s.limit s.moves.items) same c.self.invariant.counted;
      at_most = subst (AreAtMost s.script s.most) same c.self.invariant.at_most;
      acts = subst (λ (r : List Logged). AreTurns s.script s.turns (world_after s.script r)) same c.self.invariant.acts;
    }
