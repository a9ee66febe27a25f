-- The bytes so far are digits, of which the number is.
use Rattle.std.proofs.Common.{◌-◌}
use Rattle.lt_journal.specs.Grammar.{AreFirstDigits}
use Rattle.lt_checker.proofs.moves.clock_digits.Given as goal

abbrev pub invariant-loop-count : goal.invariant-loop-count
invariant-loop-count l = AreFirstDigits l.bytes l.count l.number

abbrev pub decreases-loop-count : goal.decreases-loop-count
decreases-loop-count l = 19 - l.count
