use Rattle.lt_gen.proofs.GroupLemmas.{is_beside}
use Rattle.lt_gen.proofs.group.drawn_beside.Goals as goal

pub returns-clause-beside : goal.returns-clause-beside
returns-clause-beside c = rw (c.from.ensures, c.from-nodes.ensures) (is_beside c.args.sizes c.args.client c.draw.result c.requires.some_node c.requires.inside (rw (c.from.ensures, c.from-nodes.ensures, c.from-2.ensures) at c.draw.ensures.below))
