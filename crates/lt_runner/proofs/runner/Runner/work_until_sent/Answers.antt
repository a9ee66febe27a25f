-- What its parts do.
use Rattle.lt_runner.proofs.runner.Runner.work_until_sent.Goals as goal

pub returns-clause-grew : goal.returns-clause-grew
returns-clause-grew g c = rw (← c.self.view_is, ← c.as_mut.ensures.value) c.work_until_sent.ensures.grew
