use Rattle.lt_law_journals.proofs.Feeds.{said, due_fits_after, reads_as}
use Rattle.lt_law_journals.proofs.laws.law_said.Goals as goal

pub returns-clause-all : goal.returns-clause-all
returns-clause-all c = said

pub returns-clause-due : goal.returns-clause-due
returns-clause-due c = due_fits_after

pub returns-clause-same : goal.returns-clause-same
returns-clause-same c = reads_as
