use Rattle.std.proofs.Common.{◌≡◌, ◌∙◌, ◌++◌, List, Bool, ap, sym, map, length, arith}
use Rattle.lt_modes.specs.Script.{ScriptData}
use Rattle.lt_spec.specs.Rings.{numbers_below}
use Rattle.lt_spec.specs.Holdings.{waits_for}
use Rattle.lt_world.specs.Fields.{world_of}
use Rattle.lt_waits.proofs.SoFar.{marks_push, square, all_marks}
use Rattle.lt_waits.proofs.asking.wait_graph.Goals as goal

pub loop-client-preserved : goal.loop-client-preserved
loop-client-preserved c =
    let n = length c.args.script.now.clients in
    let world = c.args.world.now in
    let graph = waits_for c.args.script.now (world_of world) in
    c.in_ok-push_waits.ensures.marks
    ∙ ap (λ (s : ScriptData). c.loop-client.pairs.items ++ map (waits_for s (world_of world) c.loop-client.client) (numbers_below (length s.clients))) c.requires
    ∙ ap (λ (l : List Bool). l ++ map (graph c.loop-client.client) (numbers_below n)) c.loop-client.invariant
    ∙ sym (marks_push n graph c.loop-client.client)

pub new-requires : goal.new-requires
new-requires c =
    let n = length c.args.script.now.clients in
    let graph = waits_for c.args.script.now (world_of c.args.world.now) in
    let all : c.loop-client.client ≡ n = omega arith in
    square n c.loop-client.client c.clients.result graph c.loop-client.pairs.items c.loop-client.invariant all c.clients.ensures.clients

pub returns-clause-told : goal.returns-clause-told
returns-clause-told c =
    let n = length c.args.script.now.clients in
    let graph = waits_for c.args.script.now (world_of c.args.world.now) in
    let all : c.loop-client.client ≡ n = omega arith in
    c.new.ensures.told graph (all_marks n c.loop-client.client c.clients.result graph c.loop-client.pairs.items c.loop-client.invariant all c.clients.ensures.clients)
