use Rattle.std.proofs.Common.{◌≡◌, ◌<◌, ◌*◌, ◌^◌, ℕ, None, length, slice_index_or}
use Rattle.lt_turns.specs.Turns.{rank_at}
use Rattle.lt_turns.proofs.turns.Turns.new.Given as goal

abbrev pub invariant-loop : goal.invariant-loop
invariant-loop l = record {
  players : length l.numbers.items ≡ l.counter;
  nodes : length l.ranks.items ≡ 2 * l.counter;
  none : (player : ℕ) → slice_index_or l.numbers.items player None ≡ None;
  nobody : (node : ℕ) → node < length l.ranks.items → rank_at l.ranks.items node ≡ 2 ^ 63;
}
