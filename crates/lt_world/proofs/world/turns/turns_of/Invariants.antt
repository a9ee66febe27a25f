use Rattle.std.proofs.Common.{◌≡◌, ◌<◌, ℕ, None, length, slice_index_or}
use Rattle.lt_world.specs.Fields.{turn_of, world_in}
use Rattle.lt_world.proofs.world.turns.turns_of.Given as goal

abbrev pub invariant-loop-client : goal.invariant-loop-client
invariant-loop-client l = record {
  count : length l.turns ≡ length l.script.clients;
  noted : (c : ℕ) → c < l.client → slice_index_or l.turns c None ≡ turn_of l.script (world_in l.script l.network) c;
}
