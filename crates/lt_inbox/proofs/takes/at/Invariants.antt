use Rattle.std.proofs.Common.{◌≡◌, ◌≤◌, ◌-◌, length, slice_get}
use Rattle.lt_inbox.specs.Mail.{takes_from, takes_by}
use Rattle.lt_inbox.proofs.takes.at.Given as goal

abbrev pub invariant-loop-receiver : goal.invariant-loop-receiver
invariant-loop-receiver l = record {
  inside : l.from ≤ length l.boxes;
  rest : slice_get (takes_from l.boxes l.from (length l.boxes - l.from)) l.left ≡ slice_get (takes_by l.boxes) l.k;
}

abbrev pub decreases-loop-receiver : goal.decreases-loop-receiver
decreases-loop-receiver l = length l.boxes - l.from
