use Rattle.lt_law_journals.specs.Checking.{first_place}
use Rattle.std.proofs.Common.{[]}
use Rattle.lt_law_journals.proofs.Places.{first_begins}
use Rattle.lt_law_journals.proofs.Accepting.{begins_all, begun}
use Rattle.lt_law_journals.proofs.Firsts.{begins_where_right}
use Rattle.lt_law_journals.proofs.laws.law_beginning.Goals as goal

pub returns-clause-read : goal.returns-clause-read
returns-clause-read c = λ script read place is_script e. begins_all script [] (first_place script) 0 read place (first_begins script) e

pub returns-clause-begun : goal.returns-clause-begun
returns-clause-begun c = λ script read is_script is_short beginning. begun script read beginning.0 is_script is_short beginning.1

pub returns-clause-journal : goal.returns-clause-journal
returns-clause-journal c = begins_where_right
