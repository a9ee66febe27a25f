use Rattle.std.proofs.Common.{◌≡◌, ◌≤◌, length, map, take, vec_capacity}
use Rattle.lt_modes.specs.Script.{ClientData}
use Rattle.lt_node.proofs.client.homes_of.Given as goal

abbrev pub invariant-loop-client : goal.invariant-loop-client
invariant-loop-client l = record {
  homes : l.homes.items ≡ map (λ (client : ClientData). client.node) (take l.client l.script.clients);
  room : length l.script.clients ≤ vec_capacity l.homes;
}
