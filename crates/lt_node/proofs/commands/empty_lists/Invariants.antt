use Rattle.std.proofs.Common.{◌≡◌, ℕ, length}
use Rattle.lt_node.specs.Clients.{progress_of, no_progress}
use Rattle.lt_node.proofs.commands.empty_lists.Given as goal

abbrev pub invariant-loop-client : goal.invariant-loop-client
invariant-loop-client l = record {
  count : length l.lists.items ≡ l._client;
  idle : (c : ℕ) → progress_of l.lists.items c ≡ no_progress;
}
