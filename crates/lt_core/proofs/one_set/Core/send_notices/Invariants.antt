use Rattle.std.proofs.Common.{◌≡◌, ◌-◌}
use Rattle.lt_desk.specs.DeskData.{out_after, bits_from}
use Rattle.lt_core.specs.Bound.{notices}
use Rattle.lt_core.proofs.one_set.Core.send_notices.Given as goal

abbrev pub invariant-loop-x : goal.invariant-loop-x
invariant-loop-x l =
    out_after (notices l.self.set l.stamp l.self.state l.targets.modes l.targets.number (bits_from (l.nodes - l.x) l.x l.targets.nodes)) l.out
    ≡ out_after (notices l.self.set l.stamp l.self.state l.targets.modes l.targets.number (bits_from l.nodes 0 l.targets.nodes)) l.initial.out
