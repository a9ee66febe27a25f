use Rattle.lt_nest.proofs.Orphans.{MarksOwnTo}
use Rattle.lt_nest.proofs.marks.Marks.new.Given as goal

abbrev pub invariant-loop-at : goal.invariant-loop-at
invariant-loop-at l = MarksOwnTo l.transactions l.x l.first l.own l.at

abbrev pub decreases-loop-at : goal.decreases-loop-at
decreases-loop-at l = l.at
