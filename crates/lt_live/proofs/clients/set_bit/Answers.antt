use Rattle.lt_live.proofs.Marking.{bit_set}
use Rattle.lt_live.proofs.clients.set_bit.Goals as goal

pub returns-clause-own : goal.returns-clause-own
returns-clause-own c = (bit_set c.args.words.now c.args.number c.from.result c.from.ensures c.requires c.told-words).0

pub returns-clause-others : goal.returns-clause-others
returns-clause-others c = (bit_set c.args.words.now c.args.number c.from.result c.from.ensures c.requires c.told-words).1
