use Rattle.lt_law_pinned.proofs.TwoWritersSay.{one_lock_says, two_writers_say, cut_short_says}
use Rattle.lt_law_pinned.proofs.Refusals.{words_say, fault_says, counts_say}
use Rattle.lt_law_pinned.proofs.CheckAnswers.{check_says, failures_say, unwritten_says, complete_says, serves_say}
use Rattle.lt_law_pinned.proofs.MakeAnswers.{make_says, soak_says}
use Rattle.lt_law_pinned.proofs.Orderings.{orders_say}
use Rattle.lt_law_pinned.proofs.EndSaid.{order_says, ends_say}
use Rattle.lt_law_pinned.proofs.answers.law_answers.Goals as goal

pub returns-clause-one_lock : goal.returns-clause-one_lock
returns-clause-one_lock g c = one_lock_says

pub returns-clause-two_writers : goal.returns-clause-two_writers
returns-clause-two_writers g c = two_writers_say

pub returns-clause-cut_short : goal.returns-clause-cut_short
returns-clause-cut_short g c = cut_short_says

pub returns-clause-words : goal.returns-clause-words
returns-clause-words g c = words_say

pub returns-clause-fault : goal.returns-clause-fault
returns-clause-fault g c = fault_says

pub returns-clause-check : goal.returns-clause-check
returns-clause-check g c = check_says

pub returns-clause-make : goal.returns-clause-make
returns-clause-make g c = make_says

pub returns-clause-soak : goal.returns-clause-soak
returns-clause-soak g c = soak_says

pub returns-clause-counts : goal.returns-clause-counts
returns-clause-counts g c = counts_say

pub returns-clause-failures : goal.returns-clause-failures
returns-clause-failures g c = failures_say

pub returns-clause-unwritten : goal.returns-clause-unwritten
returns-clause-unwritten g c = unwritten_says

pub returns-clause-complete : goal.returns-clause-complete
returns-clause-complete g c = complete_says

pub returns-clause-orders : goal.returns-clause-orders
returns-clause-orders g c = orders_say

pub returns-clause-order : goal.returns-clause-order
returns-clause-order g c = order_says

pub returns-clause-ends : goal.returns-clause-ends
returns-clause-ends g c = ends_say

pub returns-clause-serves : goal.returns-clause-serves
returns-clause-serves g c = serves_say g.S.Source.state g.K.Sink.held g.K.Sink.faults g.K.Sink.pace
