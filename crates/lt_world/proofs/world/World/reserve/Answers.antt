use Rattle.std.proofs.Common.{◌<◌, List, sym, subst}
use Rattle.lt_spec.specs.World.{Logged, world_after, moves_of}
use Rattle.lt_world.specs.Fields.{WorldData, AreCounted, AreAtMost, AreTurns}
use Rattle.lt_world.proofs.TurnMoves.{few_moves}
use Rattle.lt_world.proofs.world.World.reserve.Goals as goal

pub reserve-requires-clause-few : goal.reserve-requires-clause-few
reserve-requires-clause-few c =
    let s = c.into_parts-parts.result in
    few_moves s.script s.limit s.moves.items s.network.run.entries c.into_parts-parts.ensures.whole.holds.is_script c.into_parts-parts.ensures.whole.counted

pub invariant_of-result : goal.invariant_of-result
invariant_of-result c =
    let s = c.into_parts-parts.result in
    let same = sym c.in-Ok.ensures.entries in
    record {
      reserved_for = c.in-Ok.ensures.reserved;
      step_is = c.in-Ok.ensures.step;
      below = subst (λ (r : List Logged). moves_of c.args.choice.node r < s.limit) same
          (subst (λ (w : WorldData). moves_of c.args.choice.node w.run < w.limit) (sym c.into_parts-parts.ensures.same) c.requires.room);
      counted = subst (AreCounted s.script s.limit s.moves.items) same c.into_parts-parts.ensures.whole.counted;
      at_most = subst (AreAtMost s.script s.most) same c.into_parts-parts.ensures.whole.at_most;
      acts = subst (λ (r : List Logged). AreTurns s.script s.turns (world_after s.script r)) same c.into_parts-parts.ensures.whole.acts;
    }

pub whole-requires : goal.whole-requires
whole-requires c =
    let s = c.into_parts-parts.result in
    let same = sym c.in-Err.ensures.entries in
    record {
      holds = c.in-Err.ensures.err;
      counted = subst (AreCounted s.script s.limit s.moves.items) same c.into_parts-parts.ensures.whole.counted;
      at_most = subst (AreAtMost s.script s.most) same c.into_parts-parts.ensures.whole.at_most;
      acts = subst (λ (r : List Logged). AreTurns s.script s.turns (world_after s.script r)) same c.into_parts-parts.ensures.whole.acts;
    }
