use Rattle.lt_law_journals.proofs.RowAnswers.{empty_rows, short_rows}
use Rattle.lt_law_journals.proofs.laws.law_rows.Goals as goal

pub returns-clause-empty : goal.returns-clause-empty
returns-clause-empty c = empty_rows

pub returns-clause-short : goal.returns-clause-short
returns-clause-short c = short_rows
