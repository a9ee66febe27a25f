-- As many empty frames as nodes so far.
use Rattle.std.specs.Prelude.{◌≡◌, length}
use Rattle.lt_live_c.specs.Nodes.{NoFrameWaits}
use Rattle.lt_live_c.proofs.node_opening.no_frames.Given as goal

abbrev pub invariant-loop : goal.invariant-loop
invariant-loop l = record {
  count : length l.frames.items ≡ l.counter;
  empty : NoFrameWaits l.frames.items;
}
