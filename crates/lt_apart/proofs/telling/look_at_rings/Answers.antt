-- One node after the other.
use Rattle.lt_apart.proofs.Looking.{looked_next, ends_looked}
use Rattle.lt_apart.proofs.telling.look_at_rings.Goals as goal

pub loop-node-preserved : goal.loop-node-preserved
loop-node-preserved c = record {
  ends = ends_looked c.loop-node.station c.look_at_ring.new.station c.loop-node.far c.look_at_ring.new.far c.look_at_ring.ensures.only
      c.loop-node.invariant.ends;
  looked = looked_next c.loop-node.node c.args.station.now c.loop-node.station c.look_at_ring.new.station c.args.far.now c.loop-node.far
      c.look_at_ring.new.far c.loop-node.invariant.looked c.look_at_ring.ensures;
}
