use Rattle.std.proofs.Common.{◌≤◌, length, vec_capacity}
use Rattle.lt_node.proofs.CommandLemmas.{AreTaken}
use Rattle.lt_node.proofs.commands.take_own.Given as goal

abbrev pub invariant-loop-client : goal.invariant-loop-client
invariant-loop-client l = record {
  taken : AreTaken l.script l.node l.client l.lists.items l.clients.items;
  room : length l.script.clients ≤ vec_capacity l.clients;
}
