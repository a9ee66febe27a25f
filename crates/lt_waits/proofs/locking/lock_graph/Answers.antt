use Rattle.std.proofs.Common.{◌≡◌, ◌∙◌, ◌++◌, List, Bool, ap, sym, map, arith}
use Rattle.lt_spec.specs.Rings.{numbers_below}
use Rattle.lt_waits.specs.Serves.{graph_of}
use Rattle.lt_waits.specs.Reasons.{by_lock}
use Rattle.lt_waits.proofs.SoFar.{marks_push, square, all_marks}
use Rattle.lt_waits.proofs.locking.lock_graph.Goals as goal

pub loop-client-preserved : goal.loop-client-preserved
loop-client-preserved c =
    let n = c.args.graph.now.clients in
    let locks = by_lock c.args.tallied.now.script c.args.tallied.now.lines (graph_of c.args.graph.now) in
    c.in_ok-push_row.ensures
    ∙ ap (λ (l : List Bool). l ++ map (locks c.loop-client.client) (numbers_below n)) c.loop-client.invariant
    ∙ sym (marks_push n locks c.loop-client.client)

pub new-requires : goal.new-requires
new-requires c =
    let n = c.args.graph.now.clients in
    let locks = by_lock c.args.tallied.now.script c.args.tallied.now.lines (graph_of c.args.graph.now) in
    let all : c.loop-client.client ≡ n = omega arith in
    square n c.loop-client.client c.clients.result locks c.loop-client.pairs.items c.loop-client.invariant all c.clients.ensures

pub returns-clause-told : goal.returns-clause-told
returns-clause-told c =
    let n = c.args.graph.now.clients in
    let locks = by_lock c.args.tallied.now.script c.args.tallied.now.lines (graph_of c.args.graph.now) in
    let all : c.loop-client.client ≡ n = omega arith in
    c.new.ensures.told locks (all_marks n c.loop-client.client c.clients.result locks c.loop-client.pairs.items c.loop-client.invariant all c.clients.ensures)
