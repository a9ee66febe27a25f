-- What its parts do.
use Rattle.lt_runner.proofs.TurnLemmas.{turn_grew, grew_self}
use Rattle.lt_runner.proofs.runner.Runner.turn_telling.Goals as goal

pub returns-clause-passed : goal.returns-clause-passed
returns-clause-passed g c = rw (← c.self.view_is, ← c.as_mut.ensures.value) c.turn_telling.ensures.passed

pub returns-clause-grew : goal.returns-clause-grew
returns-clause-grew g c =
    let parts = c.as_mut.result.now in
    rw (← c.self.view_is, ← c.as_mut.ensures.value)
    (turn_grew c.turn_telling.result.0 parts parts c.turn_telling.new.self (grew_self parts) c.turn_telling.ensures.same c.turn_telling.ensures.ends)

pub returns-clause-sent : goal.returns-clause-sent
returns-clause-sent g c = rw (← c.self.view_is, ← c.as_mut.ensures.value) c.turn_telling.ensures.sent
