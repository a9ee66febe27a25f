-- The command is appended, or nothing happened.
use Rattle.std.proofs.Common.{sym, subst, false}
use Rattle.lt_node.specs.NodeData.{NodeData}
use Rattle.lt_runner.specs.Kept.{RunnerInvariant}
use Rattle.lt_runner.proofs.KeptLemmas.{kept_appended}
use Rattle.lt_runner.proofs.runner.Runner.append.Goals as goal

pub invariant_of-self : goal.invariant_of-self
invariant_of-self c =
    subst (λ (node : NodeData). RunnerInvariant (record c.as_mut-parts.result.now { node = node })) (sym c.in_err-append.ensures.same)
    (rw c.as_mut-parts.ensures.value c.self.invariant)

pub invariant_of-self-2 : goal.invariant_of-self-2
invariant_of-self-2 c =
    subst (λ (node : NodeData). RunnerInvariant (record c.as_mut-parts.result.now { node = node; idle = false })) (sym c.in_ok-append.ensures.appended)
    (kept_appended c.as_mut-parts.result.now c.args.client c.args.command (rw c.as_mut-parts.ensures.value c.self.invariant))
