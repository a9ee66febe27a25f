-- One station after the other.
use Rattle.std.proofs.Common.{◌+◌, Bool, sym, subst, arith}
use Rattle.lt_live_callers.proofs.Turned.{TurnsTo, none_turn, next_less, next_same, all_turn}
use Rattle.lt_live_callers.proofs.taking.turn_all.Goals.{then-branch, else-branch}
use Rattle.lt_live_callers.proofs.taking.turn_all.Goals as goal

pub loop-place-init : goal.loop-place-init
loop-place-init c = none_turn c.args.stations.now.items

pub loop-place-preserved : goal.loop-place-preserved
loop-place-preserved c = elim c.if-branch.branch [
  | then-branch w ↦
      subst (λ (more : Bool). TurnsTo (c.loop-place.place + 1) more c.args.stations.now.items c.turn_at.new.stations.items) (sym w.more-is)
      (next_less c.loop-place.place c.in_ok-turn_at.field-0 c.loop-place.more c.args.stations.now.items c.loop-place.stations.items
      c.turn_at.new.stations.items w.if-branch.true c.loop-place.invariant c.in_ok-turn_at.ensures)
  | else-branch w ↦
      subst (λ (more : Bool). TurnsTo (c.loop-place.place + 1) more c.args.stations.now.items c.turn_at.new.stations.items) (sym w.more-is)
      (next_same c.loop-place.place c.in_ok-turn_at.field-0 c.loop-place.more c.args.stations.now.items c.loop-place.stations.items
      c.turn_at.new.stations.items w.if-branch.false c.loop-place.invariant c.in_ok-turn_at.ensures)
]

pub returns : goal.returns
returns c =
    all_turn c.loop-place.place c.loop-place.more c.args.stations.now.items c.loop-place.stations.items
    (omega (arith, c.loop-place.invariant.count, c.loop-place-test.false)) c.loop-place.invariant
