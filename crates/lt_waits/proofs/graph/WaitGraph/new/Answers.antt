use Rattle.lt_waits.proofs.SoFar.{marks_tell}
use Rattle.lt_waits.proofs.graph.WaitGraph.new.Goals as goal

pub returns-clause-told : goal.returns-clause-told
returns-clause-told c = λ graph e. marks_tell c.args.clients c.args.pairs.items graph e
