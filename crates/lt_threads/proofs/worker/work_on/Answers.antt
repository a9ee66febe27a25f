-- What is looked for doesn't matter to how the work ended.
use Rattle.lt_threads.proofs.Taken.{ends_later}
use Rattle.lt_threads.proofs.worker.work_on.Goals as goal

pub returns-clause-ends : goal.returns-clause-ends
returns-clause-ends g c =
    ends_later c.work_counted-visit.result.worked c.work_counted-visit.new.runner c.look_for-2.new.self c.work_counted-visit.ensures.ends c.look_for-2.ensures.seen

pub returns-clause-flushed : goal.returns-clause-flushed
returns-clause-flushed g c idle = c.look_for-2.ensures.flushed (c.work_counted-visit.ensures.flushed idle)
