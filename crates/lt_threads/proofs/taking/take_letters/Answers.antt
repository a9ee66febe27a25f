-- One letter after the other.
use Rattle.lt_runner.specs.Kept.{grew_itself}
use Rattle.lt_threads.proofs.Pushing.{grew_join}
use Rattle.lt_threads.proofs.taking.take_letters.Goals as goal

pub letters-init : goal.letters-init
letters-init g c = grew_itself c.args.runner.now

pub letters-preserved : goal.letters-preserved
letters-preserved g c = grew_join c.args.runner.now c.letters.runner c.turn_by_mail.new.runner c.letters.invariant c.turn_by_mail.ensures.grew

pub returns-in-Quiet-clause-grew : goal.returns-in-Quiet-clause-grew
returns-in-Quiet-clause-grew g c = grew_join c.args.runner.now c.letters.runner c.turn_by_mail.new.runner c.letters.invariant c.turn_by_mail.ensures.grew

pub returns-in-Quiet-clause-flushed : goal.returns-in-Quiet-clause-flushed
returns-in-Quiet-clause-flushed g c = λ idle. c.turn_by_mail.ensures.flushed c.in-Quiet.is

pub returns-in-Full-clause-grew : goal.returns-in-Full-clause-grew
returns-in-Full-clause-grew g c = grew_join c.args.runner.now c.letters.runner c.turn_by_mail.new.runner c.letters.invariant c.turn_by_mail.ensures.grew

pub returns-in-NoMemory-clause-grew : goal.returns-in-NoMemory-clause-grew
returns-in-NoMemory-clause-grew g c = grew_join c.args.runner.now c.letters.runner c.turn_by_mail.new.runner c.letters.invariant c.turn_by_mail.ensures.grew
