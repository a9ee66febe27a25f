use Rattle.std.proofs.Common.{suc, ◌-◌, sym, arith, ◌∙◌}
use Rattle.lt_waits.specs.Serves.{graph_of}
use Rattle.lt_waits.proofs.Walks.{walk_stops, walk_steps}
use Rattle.lt_waits.proofs.rings.walk_end.Goals as goal

pub returns-in_default-clause-end : goal.returns-in_default-clause-end
returns-in_default-clause-end c =
    let n = c.args.graph.now.clients in
    let left = n - c.loop-step._step in
    sym (walk_stops left n (graph_of c.args.graph.now) c.loop-step.last (sym c.in_default.ensures.next)) ∙ c.loop-step.invariant.on left (omega arith)

pub loop-step-preserved : goal.loop-step-preserved
loop-step-preserved c = record {
  within = c.in-Some.ensures.within;
  on = λ k h.
      sym (walk_steps k c.args.graph.now.clients (graph_of c.args.graph.now) c.loop-step.last c.in-Some.next (sym c.in-Some.ensures.next))
      ∙ c.loop-step.invariant.on (suc k) (omega (arith, h));
}

pub returns-clause-end : goal.returns-clause-end
returns-clause-end c = c.loop-step.invariant.on 0 (omega arith)
