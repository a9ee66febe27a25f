-- Moves one after the other, and a flush, which is no move.
use Rattle.std.proofs.Common.{arith}
use Rattle.lt_runner.proofs.TurnLemmas.{not_idle, seen_grew, grew_join, grew_self}
use Rattle.lt_runner.proofs.parts.Parts.work_until_sent.Goals as goal

pub loop-self-init : goal.loop-self-init
loop-self-init g c = (c.requires, grew_self c.args.self.now)

pub move_and_act-requires : goal.move_and_act-requires
move_and_act-requires g c = (c.type_bounds.sync-G, (c.find.ensures.kept, c.in-Move.ensures.ends))

pub loop-self-preserved : goal.loop-self-preserved
loop-self-preserved g c = (
  c.move_and_act.ensures.kept,
  grew_join c.args.self.now c.find.new.self c.move_and_act.new.self
      (seen_grew c.args.self.now c.loop-self.self c.find.new.self c.loop-self.invariant.1 c.find.ensures.seen) c.move_and_act.ensures.grew,
)

pub returns-in-Quiet-clause-grew : goal.returns-in-Quiet-clause-grew
returns-in-Quiet-clause-grew g c = seen_grew c.args.self.now c.loop-self.self c.find.new.self c.loop-self.invariant.1 c.find.ensures.seen

pub returns-in-Full-clause-grew : goal.returns-in-Full-clause-grew
returns-in-Full-clause-grew g c = seen_grew c.args.self.now c.loop-self.self c.find.new.self c.loop-self.invariant.1 c.find.ensures.seen

pub returns-in-Full-clause-ends : goal.returns-in-Full-clause-ends
returns-in-Full-clause-ends g c = c.in-Full.ensures.ends

pub returns-then-not-move_and_act-clause-grew : goal.returns-then-not-move_and_act-clause-grew
returns-then-not-move_and_act-clause-grew g c =
    grew_join c.args.self.now c.find.new.self c.move_and_act.new.self
    (seen_grew c.args.self.now c.loop-self.self c.find.new.self c.loop-self.invariant.1 c.find.ensures.seen) c.move_and_act.ensures.grew

pub returns-then-not-move_and_act-clause-ends : goal.returns-then-not-move_and_act-clause-ends
returns-then-not-move_and_act-clause-ends g c = c.move_and_act.ensures.could c.if-not-move_and_act.true

pub returns-then-not-move_and_act-clause-flushed : goal.returns-then-not-move_and_act-clause-flushed
returns-then-not-move_and_act-clause-flushed g c = λ idle. absurd (not_idle idle)

pub returns-clause-grew : goal.returns-clause-grew
returns-clause-grew g c = seen_grew c.args.self.now c.loop-self.self _ c.loop-self.invariant.1 c.flush.ensures.seen

pub returns-clause-ends : goal.returns-clause-ends
returns-clause-ends g c = λ some. absurd (omega (arith, some))
