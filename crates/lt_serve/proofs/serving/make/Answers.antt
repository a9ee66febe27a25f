use Rattle.std.proofs.Common.{ap, subst}
use Rattle.std.proofs.lemmas.Result.{IfOk-weaker}
use Rattle.lt_serve.specs.declared.schedule.Schedule.{Schedule}
use Rattle.lt_serve.specs.declared.schedule.Schedule.TheVariants.{Drawn}
use Rattle.lt_serve.specs.TopCall.{JournalsInOrder}
use Rattle.lt_serve.proofs.serving.make.Goals as goal

pub returns-in-Sim-clause-does : goal.returns-in-Sim-clause-does
returns-in-Sim-clause-does g c =
    let left = (g.S.Source.state c.args.source.now).left in
    rw c.in-Sim.is (IfOk-weaker c.simulated-in-Sim.result _ _
    (λ made in_order. subst (λ (schedule : Schedule). JournalsInOrder schedule c.args.setup.moves made.ending left made.run.entries made.text.items)
    (ap Drawn c.new.ensures) in_order) c.simulated-in-Sim.ensures.does)
