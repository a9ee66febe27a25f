-- One runner more has a script.
use Rattle.std.proofs.Common.{subst, arith}
use Rattle.lt_spec.specs.Script.{IsScript}
use Rattle.lt_runner.specs.declared.parts.Parts.{Parts}
use Rattle.lt_threads.proofs.Shares.{next_script, all_scripts}
use Rattle.lt_threads.proofs.joining.are_scripts.Goals as goal

pub loop-k-preserved : goal.loop-k-preserved
loop-k-preserved c =
    next_script c.loop-k.k c.args.runners.now c.index-runners-k.result (omega (arith, c.loop-k.auto.k-end, c.loop-k-test.true)) c.loop-k.invariant
    (subst (λ (p : Parts). IsScript p.node.script) c.index-runners-k.is c.is_script.ensures)

pub returns : goal.returns
returns c = all_scripts c.loop-k.k c.args.runners.now (omega (arith, c.loop-k.auto.k-end, c.loop-k-test.false)) c.loop-k.invariant
