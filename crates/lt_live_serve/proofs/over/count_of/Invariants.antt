-- The commands that were looked at are counted.
use Rattle.std.proofs.Common.{◌≡◌, ◌≤◌, length}
use Rattle.lt_live_serve.specs.Serves.{among}
use Rattle.lt_live_serve.proofs.over.count_of.Given as goal

abbrev pub invariant-loop-place : goal.invariant-loop-place
invariant-loop-place l = record {
  counted : l.count ≡ length (among l.script l.client l.place);
  few : l.count ≤ l.place;
}
