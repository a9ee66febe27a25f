-- A half is shorter than the whole.
use Rattle.std.proofs.Common.{◌+◌, ◌-◌, ◌*◌, length}
use Rattle.lt_runner.proofs.at_once.+halves.Given as goal

abbrev pub decreases-work_all : goal.decreases-work_all
decreases-work_all g l = 4 * length l.runners.now

abbrev pub decreases-work_both : goal.decreases-work_both
decreases-work_both g l = 4 * (length l.front.now + length l.back.now) - 1

abbrev pub decreases-work_both-low : goal.decreases-work_both-low
decreases-work_both-low g l = 4 * length l.front.now + 1

abbrev pub decreases-work_both-high : goal.decreases-work_both-high
decreases-work_both-high g l = 4 * length l.back.now + 1
