use Rattle.std.proofs.Common.{◌≡◌, ◌∙◌, ◌++◌, List, Bool, ap, sym, map, arith}
use Rattle.lt_spec.specs.Rings.{numbers_below}
use Rattle.lt_ring.specs.Seen.{waits_seen}
use Rattle.lt_ring.proofs.Marked.{marks_more, all_marked, all_many}
use Rattle.lt_ring.proofs.nodes.Nodes.graph.Goals as goal

pub loop-client-preserved : goal.loop-client-preserved
loop-client-preserved c =
    let n = c.args.clients in
    let graph = waits_seen c.args.self.now in
    c.in_ok-push_row.ensures
    ∙ ap (λ (l : List Bool). l ++ map (graph c.loop-client.client) (numbers_below n)) c.loop-client.invariant
    ∙ sym (marks_more n graph c.loop-client.client)

pub new-requires : goal.new-requires
new-requires c =
    let all : c.loop-client.client ≡ c.args.clients = omega arith in
    all_many c.args.clients c.loop-client.client (waits_seen c.args.self.now) c.loop-client.pairs.items c.loop-client.invariant all

pub returns-clause-told : goal.returns-clause-told
returns-clause-told c =
    let all : c.loop-client.client ≡ c.args.clients = omega arith in
    c.new.ensures.told (waits_seen c.args.self.now)
    (all_marked c.args.clients c.loop-client.client (waits_seen c.args.self.now) c.loop-client.pairs.items c.loop-client.invariant all)
