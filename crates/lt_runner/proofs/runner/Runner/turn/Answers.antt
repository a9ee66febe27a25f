-- What its parts do.
use Rattle.lt_runner.proofs.TurnLemmas.{turn_grew, grew_self}
use Rattle.lt_runner.proofs.runner.Runner.turn.Goals as goal

pub returns-clause-passed : goal.returns-clause-passed
returns-clause-passed g c = rw (← c.self.view_is, ← c.as_mut.ensures.value) c.turn.ensures.passed

pub returns-clause-grew : goal.returns-clause-grew
returns-clause-grew g c =
    let parts = c.as_mut.result.now in
    rw (← c.self.view_is, ← c.as_mut.ensures.value)
    (turn_grew c.turn.result parts parts c.turn.new.self (grew_self parts) c.turn.ensures.same c.turn.ensures.ends)
