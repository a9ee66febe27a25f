use Rattle.std.proofs.Common.{◌∙◌, sym, subst, arith}
use Rattle.lt_world.specs.Fields.{AreCounted, AreAtMost}
use Rattle.lt_world.proofs.TurnMoves.{counted_at_start}
use Rattle.lt_world.proofs.world.World.new.Goals as goal

pub invariant_of-result : goal.invariant_of-result
invariant_of-result c = rw c.in_ok-script.ensures (record {
  holds = c.in_ok-network.ensures.holds;
  counted = subst (AreCounted c.args.script.now c.args.limit c.in_ok-moves.moves.items) (sym c.in_ok-network.ensures.start)
      (counted_at_start c.args.script.now c.args.limit c.in_ok-moves.moves.items c.requires.1 (c.in_ok-moves.ensures.count ∙ c.nodes.ensures.nodes) c.in_ok-moves.ensures.none);
  at_most = subst (AreAtMost c.args.script.now 0) (sym c.in_ok-network.ensures.start) (λ q below. omega arith);
  acts = c.in_ok-turns.ensures;
})
