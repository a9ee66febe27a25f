use Rattle.std.proofs.Common.{◌≡◌, ◌∙◌, ◌+◌, ◌<◌, Bool, true, false, Some, if◌then◌else◌, ap, arith, drop, find, length, sym}
use Rattle.lt_ring.specs.Seen.{is_node_of}
use Rattle.lt_ring.proofs.Places.{next_at}
use Rattle.lt_ring.proofs.nodes.Nodes.own.Goals as goal

pub loop-place-preserved : goal.loop-place-preserved
loop-place-preserved c =
    let test = is_node_of c.args.client in
    let node = c.at-node.result.now in
    let left = drop (c.loop-place.place + 1) c.args.self.now in
    let inside : c.loop-place.place < length c.args.self.now = omega (arith, c.loop-place-test.true, c.loop-place.auto.place-end, c.count-place-end.ensures) in
    let here : test node ≡ false = sym c.is_node_of.ensures ∙ c.if-is_node_of.false in
    sym (ap (find test) (next_at c.args.self.now c.loop-place.place node inside c.at-node.ensures) ∙ ap (λ (b : Bool). if b then Some node else find test left) here)
    ∙ c.loop-place.invariant

pub returns-then-is_node_of : goal.returns-then-is_node_of
returns-then-is_node_of c =
    let test = is_node_of c.args.client in
    let node = c.at-node.result.now in
    let left = drop (c.loop-place.place + 1) c.args.self.now in
    let inside : c.loop-place.place < length c.args.self.now = omega (arith, c.loop-place-test.true, c.loop-place.auto.place-end, c.count-place-end.ensures) in
    let here : test node ≡ true = sym c.is_node_of.ensures ∙ c.if-is_node_of.true in
    sym (ap (find test) (next_at c.args.self.now c.loop-place.place node inside c.at-node.ensures) ∙ ap (λ (b : Bool). if b then Some node else find test left) here)
    ∙ c.loop-place.invariant
