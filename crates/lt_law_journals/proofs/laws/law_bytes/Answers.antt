use Rattle.lt_law_journals.specs.Checking.{new_feed}
use Rattle.std.proofs.Common.{arith}
use Rattle.lt_law_journals.proofs.Feeds.{fed_all, kept_few}
use Rattle.lt_law_journals.proofs.laws.law_bytes.Goals as goal

pub returns-clause-all : goal.returns-clause-all
returns-clause-all c = fed_all

pub returns-clause-kept : goal.returns-clause-kept
returns-clause-kept c = λ script bytes. kept_few script (new_feed script) bytes (omega arith)
