-- The loop of commands.
use Rattle.lt_runner.specs.Kept.{RunnerInvariant, Grew}
use Rattle.lt_runner.proofs.parts.Parts.act_on.Given as goal

abbrev pub invariant-loop : goal.invariant-loop
invariant-loop g l = RunnerInvariant l.self × Grew l.initial.self l.self
