use Rattle.lt_law_pinned.proofs.Excluding.{locks_excluded, places_excluded, waits_excluded, rests_excluded, tries_excluded}
use Rattle.lt_law_pinned.proofs.laws.law_excluded.Goals as goal

pub returns-clause-locks : goal.returns-clause-locks
returns-clause-locks c = locks_excluded

pub returns-clause-places : goal.returns-clause-places
returns-clause-places c = places_excluded

pub returns-clause-waits : goal.returns-clause-waits
returns-clause-waits c = waits_excluded

pub returns-clause-rests : goal.returns-clause-rests
returns-clause-rests c = rests_excluded

pub returns-clause-tries : goal.returns-clause-tries
returns-clause-tries c = tries_excluded
