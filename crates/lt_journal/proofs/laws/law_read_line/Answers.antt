use Rattle.lt_journal.proofs.Found.{as_written}
use Rattle.lt_journal.proofs.Written.{named, few_nodes, line_back}
use Rattle.lt_journal.proofs.laws.law_read_line.Goals as goal

pub returns-clause-written : goal.returns-clause-written
returns-clause-written c = as_written

pub returns-clause-read : goal.returns-clause-read
returns-clause-read c = λ script line is_script fits. line_back script line (named script is_script) (few_nodes script is_script) fits
