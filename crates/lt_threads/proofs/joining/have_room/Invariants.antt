-- The commands of the first runners are counted.
use Rattle.std.proofs.Common.{◌≡◌, ◌≤◌, length, take}
use Rattle.lt_spec.specs.declared.limits.TheConstants.{MAX_COMMANDS}
use Rattle.lt_threads.specs.Meeting.{commands_in}
use Rattle.lt_threads.proofs.joining.have_room.Given as goal

abbrev pub invariant-loop-place : goal.invariant-loop-place
invariant-loop-place l = record {
  counted : l.count ≡ length (commands_in (take l.place l.fn.runners));
  few : l.count ≤ MAX_COMMANDS;
}
