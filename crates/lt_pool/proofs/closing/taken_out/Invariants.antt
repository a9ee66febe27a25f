-- The first slots were emptied into the list, and the others are still full.
use Rattle.std.proofs.Common.{◌≡◌, ℕ, ◌<◌, ◌≤◌, false, get_or, map, take, Some, vec_len, vec_capacity}
use Rattle.std.specs.Mem.Slots.{slots_items, slots_filled, slots_len}
use Rattle.std.specs.Mem.Slots.Ownership.{Filled}
use Rattle.lt_pool.proofs.closing.taken_out.Given as goal

abbrev pub invariant-loop-i : goal.invariant-loop-i
invariant-loop-i g l = record {
  values : slots_items l.closed.slots ≡ slots_items l.initial.closed.slots;
  wide : slots_len l.closed.slots ≡ slots_len l.initial.closed.slots;
  full : Filled (slots_filled l.closed.slots) l.i (slots_len l.closed.slots);
  emptied : (k : ℕ) → k < l.i → get_or (slots_filled l.closed.slots) k false ≡ false;
  items : map Some l.items.items ≡ take l.i (slots_items l.closed.slots);
  count : vec_len l.items ≡ l.i;
  room : slots_len l.closed.slots ≤ vec_capacity l.items;
}
