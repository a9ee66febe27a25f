use Rattle.lt_spec.specs.World.{start}
use Rattle.lt_serve.proofs.Ordered.{first_from}
use Rattle.lt_serve.proofs.laws.law_fixed_order.Goals as goal

pub returns : goal.returns
returns c = λ script run ordered. first_from script (start script) run ordered
