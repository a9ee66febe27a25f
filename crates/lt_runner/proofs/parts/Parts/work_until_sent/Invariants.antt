-- The loop of turns.
use Rattle.std.proofs.Common.{◌-◌, length}
use Rattle.lt_runner.specs.Kept.{RunnerInvariant, Grew}
use Rattle.lt_runner.proofs.parts.Parts.work_until_sent.Given as goal

abbrev pub invariant-loop-self : goal.invariant-loop-self
invariant-loop-self g l = RunnerInvariant l.self × Grew l.initial.self l.self

abbrev pub decreases-loop-self : goal.decreases-loop-self
decreases-loop-self g l = l.self.limit - length l.self.log.entries
