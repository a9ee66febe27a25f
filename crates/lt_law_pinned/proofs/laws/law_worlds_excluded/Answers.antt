use Rattle.lt_law_pinned.proofs.Opened.{promised_opens}
use Rattle.lt_law_pinned.proofs.Excluding.{counts_excluded, standing_excluded, turns_excluded}
use Rattle.lt_law_pinned.proofs.laws.law_worlds_excluded.Goals as goal

pub returns-clause-counts : goal.returns-clause-counts
returns-clause-counts c = counts_excluded

pub returns-clause-standing : goal.returns-clause-standing
returns-clause-standing c = standing_excluded

pub returns-clause-turns : goal.returns-clause-turns
returns-clause-turns c = turns_excluded

pub returns-clause-opens : goal.returns-clause-opens
returns-clause-opens c = promised_opens
