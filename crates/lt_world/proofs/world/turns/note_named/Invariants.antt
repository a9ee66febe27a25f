use Rattle.std.proofs.Common.{◌≡◌, length}
use Rattle.lt_world.specs.Fields.{world_in, OthersStand}
use Rattle.lt_world.proofs.world.turns.note_named.Given as goal

abbrev pub invariant-loop-line : goal.invariant-loop-line
invariant-loop-line l = record {
  count : length l.turns ≡ length l.script.clients;
  others : OthersStand l.script l.turns (world_in l.script l.network) l.fn.step l.lines l.line-index;
}
