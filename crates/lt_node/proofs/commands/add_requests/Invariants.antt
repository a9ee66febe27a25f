use Rattle.std.proofs.Common.{◌≡◌, length}
use Rattle.lt_node.specs.Clients.{HaveAmong}
use Rattle.lt_node.proofs.commands.add_requests.Given as goal

-- the lists have the commands that were met
abbrev pub invariant-loop-place : goal.invariant-loop-place
invariant-loop-place l = record {
  count : length l.lists.items ≡ length l.script.clients;
  among : HaveAmong l.script l.place l.lists.items;
}
