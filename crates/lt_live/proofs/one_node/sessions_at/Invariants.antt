-- The sessions of the first clients.
use Rattle.std.specs.Prelude.{◌≡◌}
use Rattle.lt_live.specs.OneNode.{OpensHere}
use Rattle.lt_live.proofs.one_node.sessions_at.Given as goal

abbrev pub invariant-loop-client : goal.invariant-loop-client
invariant-loop-client l = record {
  runner : l.station.runner ≡ l.initial.station.runner;
  own : OpensHere l.script l.capacity l.share l.client l.station l.sessions.items;
}
