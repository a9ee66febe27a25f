-- So many letters went out.
use Rattle.std.specs.Prelude.{◌≤◌, ◌-◌}
use Rattle.lt_mail.specs.Words.{taken_from}
use Rattle.lt_apart.specs.Remote.{HasFarEnds}
use Rattle.lt_apart.specs.Carrying.{GivesOut, OnlyGives}
use Rattle.lt_apart.proofs.giving.give_letters.Given as goal

abbrev pub invariant-loop-count : goal.invariant-loop-count
invariant-loop-count l = record {
  far : HasFarEnds l.station.runner l.ends.far l.ends.given.items l.ends.brought.items;
  gives : GivesOut l.key l.wire l.count (taken_from l.initial.ends.far l.wire.to) (taken_from l.ends.far l.wire.to) l.initial.out.items l.out.items;
  most : l.count ≤ l.most;
  only : OnlyGives l.wire.to l.initial.station l.station l.initial.ends.far l.ends.far;
}

abbrev pub decreases-loop-count : goal.decreases-loop-count
decreases-loop-count l = l.most - l.count
