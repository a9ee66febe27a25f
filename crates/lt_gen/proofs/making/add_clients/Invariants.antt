-- The clients so far are there.
use Rattle.std.proofs.Common.{◌≡◌}
use Rattle.lt_gen.specs.Generator.{clients_of}
use Rattle.lt_gen.proofs.making.add_clients.Given as goal

abbrev pub invariant-loop-client : goal.invariant-loop-client
invariant-loop-client l = record {
  nodes : l.nodes ≡ l.fn.script.nodes;
  made : l.script ≡ record l.fn.script { clients = clients_of l.fn.script.nodes l.client };
}
