use Rattle.lt_inbox.proofs.Bits.{bit_set}
use Rattle.lt_inbox.proofs.node_set.set_bit.Goals as goal

pub returns-clause-own : goal.returns-clause-own
returns-clause-own c = (bit_set c.args.words.now c.args.number c.from.result c.from.ensures c.ranges.number.fits c.told-words).0

pub returns-clause-others : goal.returns-clause-others
returns-clause-others c = (bit_set c.args.words.now c.args.number c.from.result c.from.ensures c.ranges.number.fits c.told-words).1
