use Rattle.std.proofs.Common.{refl}
use Rattle.lt_node.proofs.NodeLemmas.{node_same, same_node}
use Rattle.lt_node.proofs.NodeSets.{sets_same}
use Rattle.lt_node.proofs.RoomLemmas.{letter_here}
use Rattle.lt_node.proofs.node.Node.reserve_for.Goals as goal

pub reserve_for-requires-clause-set : goal.reserve_for-requires-clause-set
reserve_for-requires-clause-set c =
    (letter_here _ c.args.self.now c.args.letter.now c.self.inside.sets c.self.view_is c.self.invariant.0 c.self.invariant.2 refl c.requires.fits c.requires.within).inside

pub reserve_for-requires-clause-few : goal.reserve_for-requires-clause-few
reserve_for-requires-clause-few c =
    (letter_here _ c.args.self.now c.args.letter.now c.self.inside.sets c.self.view_is c.self.invariant.0 c.self.invariant.2 refl c.requires.fits c.requires.within).few

pub reserve_for-requires-clause-asks : goal.reserve_for-requires-clause-asks
reserve_for-requires-clause-asks c =
    (letter_here _ c.args.self.now c.args.letter.now c.self.inside.sets c.self.view_is c.self.invariant.0 c.self.invariant.2 refl c.requires.fits c.requires.within).asks

pub invariant_of-self : goal.invariant_of-self
invariant_of-self c = (
  node_same _ c.reserve_for.new.sets.cores c.self.invariant.0 c.reserve_for.ensures.sets.kept,
  c.self.invariant.1,
  sets_same c.self.inside.script.whole c.self.inside.me c.self.inside.sets c.reserve_for.new.sets c.self.invariant.2 c.reserve_for.ensures.sets,
  c.self.invariant.3,
)

pub returns-clause-node : goal.returns-clause-node
returns-clause-node c = same_node _ c.args.self.now c.reserve_for.new.sets.cores c.self.view_is c.reserve_for.ensures.sets.kept
