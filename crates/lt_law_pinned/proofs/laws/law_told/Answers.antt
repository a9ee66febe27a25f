use Rattle.lt_law_pinned.proofs.LimitsOpened.{words_are, runs_told, orders_told, times_told, soak_told, check_told, make_told, within_told, far_told, each_time_told, ends_told}
use Rattle.lt_law_pinned.proofs.laws.law_told.Goals as goal

pub returns-clause-words : goal.returns-clause-words
returns-clause-words c = words_are

pub returns-clause-runs : goal.returns-clause-runs
returns-clause-runs c = runs_told

pub returns-clause-orders : goal.returns-clause-orders
returns-clause-orders c = orders_told

pub returns-clause-times : goal.returns-clause-times
returns-clause-times c = times_told

pub returns-clause-each_time : goal.returns-clause-each_time
returns-clause-each_time c = each_time_told

pub returns-clause-within : goal.returns-clause-within
returns-clause-within c = within_told

pub returns-clause-far : goal.returns-clause-far
returns-clause-far c = far_told

pub returns-clause-ends : goal.returns-clause-ends
returns-clause-ends c = ends_told c.law_never_cut.ensures.at_all

pub returns-clause-soak : goal.returns-clause-soak
returns-clause-soak c = soak_told

pub returns-clause-check : goal.returns-clause-check
returns-clause-check c = check_told c.law_never_cut.ensures.short

pub returns-clause-make : goal.returns-clause-make
returns-clause-make c = make_told
