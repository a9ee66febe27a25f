-- Nothing but accesses of slots and refused claims was noted.
use Rattle.std.proofs.Common.{◌≡◌}
use Rattle.lt_tests.proofs.visits.visit_both.Given as goal

abbrev pub invariant-loop : goal.invariant-loop
invariant-loop l = l.badge ≡ record l.initial.badge { refused = l.badge.refused; history = l.badge.history }
