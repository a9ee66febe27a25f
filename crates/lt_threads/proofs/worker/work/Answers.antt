-- It is asked afterwards to which nodes letters went.
use Rattle.lt_threads.proofs.Pushing.{seen_grew, grew_join}
use Rattle.lt_threads.proofs.Taken.{ends_later}
use Rattle.lt_threads.proofs.worker.work.Goals as goal

pub returns-clause-grew : goal.returns-clause-grew
returns-clause-grew g c =
    grew_join c.args.runner.now c.make_moves-worked.new.runner c.reached.new.self c.make_moves-worked.ensures.grew
    (seen_grew c.make_moves-worked.new.runner c.reached.new.self c.reached.ensures.seen)

pub returns-clause-ends : goal.returns-clause-ends
returns-clause-ends g c =
    ends_later c.make_moves-worked.result c.make_moves-worked.new.runner c.reached.new.self c.make_moves-worked.ensures.ends c.reached.ensures.seen

pub returns-clause-flushed : goal.returns-clause-flushed
returns-clause-flushed g c = λ idle. c.reached.ensures.flushed (c.make_moves-worked.ensures.flushed idle)
