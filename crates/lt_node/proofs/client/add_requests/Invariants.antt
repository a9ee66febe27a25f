use Rattle.std.proofs.Common.{◌≡◌, length}
use Rattle.lt_node.specs.Clients.{HaveFirst}
use Rattle.lt_node.proofs.client.add_requests.Given as goal

-- the clients have the commands that were met
abbrev pub invariant-loop-place : goal.invariant-loop-place
invariant-loop-place l = record {
  count : length l.clients.items ≡ length l.script.clients;
  first : HaveFirst l.script l.node l.place l.clients.items;
}
