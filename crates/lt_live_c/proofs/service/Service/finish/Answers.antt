-- Of the run that was made there is a journal, or none.
use Rattle.lt_live_c.proofs.Finishing.{is_journal, none_forgot, many_sets}
use Rattle.lt_live_c.proofs.service.Service.finish.Goals as goal

pub returns-clause-journal : goal.returns-clause-journal
returns-clause-journal c =
    is_journal c.args.self c.in_ok-script.script c.in_ok-script.run'.entries c.journal_of.result c.in_ok-script.ensures.run
    c.in_ok-script.ensures.few_commands c.journal_of.ensures.journal

pub returns-clause-forgotten : goal.returns-clause-forgotten
returns-clause-forgotten c =
    none_forgot c.args.self c.in_ok-script.script c.in_ok-script.run'.entries c.journal_of.result c.journal_of.ensures.many

pub returns-clause-many : goal.returns-clause-many
returns-clause-many c =
    many_sets c.args.self c.in_ok-script.script c.in_ok-script.run'.entries c.journal_of.result c.in_ok-script.ensures.run
    c.journal_of.ensures.many
