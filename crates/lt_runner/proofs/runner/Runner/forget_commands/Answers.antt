-- Only what is forgotten is another.
use Rattle.std.proofs.Common.{sym, subst}
use Rattle.lt_node.specs.NodeData.{NodeData}
use Rattle.lt_runner.specs.Kept.{RunnerInvariant}
use Rattle.lt_runner.proofs.Forgotten.{kept_without}
use Rattle.lt_runner.proofs.runner.Runner.forget_commands.Goals as goal

pub invariant_of-self : goal.invariant_of-self
invariant_of-self c =
    subst (λ (node : NodeData). RunnerInvariant (record c.as_mut.result.now { node = node })) (sym c.forget_commands.ensures.same)
    (kept_without c.as_mut.result.now c.forget_commands.new.self.gone (rw c.as_mut.ensures.value c.self.invariant))

pub invariant_of-self-2 : goal.invariant_of-self-2
invariant_of-self-2 c =
    subst (λ (node : NodeData). RunnerInvariant (record c.as_mut.result.now { node = node })) (sym c.forget_commands.ensures.same)
    (kept_without c.as_mut.result.now c.forget_commands.new.self.gone (rw c.as_mut.ensures.value c.self.invariant))
