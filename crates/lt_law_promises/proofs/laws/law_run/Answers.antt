use Rattle.std.proofs.Common.{take}
use Rattle.lt_spec.specs.Holdings.{lines_of}
use Rattle.lt_spec.specs.World.{world_after}
use Rattle.lt_law_promises.proofs.Waiters.{some_waiter}
use Rattle.lt_law_promises.proofs.laws.law_run.Goals as goal

pub returns-clause-somebody : goal.returns-clause-somebody
returns-clause-somebody c = λ script run whole is_run k.
    some_waiter script (lines_of (take k run)) (world_after script (take k run))
    (λ client s mode known within. c.law_lines_tell.ensures.waits script run whole is_run k client s mode known within)
