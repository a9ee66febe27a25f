use Rattle.std.proofs.Common.{◌∙◌, ◌++◌, suc, ap₂, sym, append-nil, arith}
use Rattle.lt_waits.specs.Behind.{behind, edges_to}
use Rattle.lt_waits.specs.Serves.{graph_of}
use Rattle.lt_waits.specs.Shortest.{waiting_for, not_waiting_for}
use Rattle.lt_waits.proofs.Rounding.{round_more}
use Rattle.lt_waits.proofs.behind.behind.Goals as goal

pub loop-round-preserved : goal.loop-round-preserved
loop-round-preserved c =
    let locks = graph_of c.args.locks.now in
    let graph = graph_of c.args.graph.now in
    let before = c.loop-round.edges.items in
    let added = c.in_ok-push_edges_to.ensures.edges ∙ ap₂ (λ o l. before ++ edges_to locks graph o l) c.deref.ensures.value c.deref-in-loop-round.ensures.value in
    let goes = c.in_ok-next.ensures.waiting ∙ ap₂ (waiting_for graph) c.deref-in-loop-round-3.ensures.value c.deref-in-loop-round-2.ensures.value in
    let stays = c.in_ok-left-2.ensures.waiting ∙ ap₂ (not_waiting_for graph) c.deref-in-loop-round-5.ensures.value c.deref-in-loop-round-4.ensures.value in
    record {
      edges = λ k h. round_more k locks graph c.loop-round.layer.items c.loop-round.left.items c.in_ok-next.next.items c.in_ok-left-2.left.items
          before c.push_edges_to.new.edges.items (behind c.args.graph.now.clients locks graph c.args.clients.now)
          added goes stays (c.loop-round.invariant.edges (suc k) (omega (arith, h)));
      within = c.in_ok-push_edges_to.ensures.within;
      layer = c.in_ok-next.ensures.within;
      left = c.in_ok-left-2.ensures.within;
    }

pub returns-clause-edges : goal.returns-clause-edges
returns-clause-edges c = sym (append-nil c.loop-round.edges.items) ∙ c.loop-round.invariant.edges 0 (omega arith)
