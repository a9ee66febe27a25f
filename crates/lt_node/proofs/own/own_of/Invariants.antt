use Rattle.lt_node.specs.Clients.{AreOwn}
use Rattle.lt_node.proofs.own.own_of.Given as goal

abbrev pub invariant-loop-client : goal.invariant-loop-client
invariant-loop-client l = AreOwn l.script.clients l.node 0 l.client l.own.items
