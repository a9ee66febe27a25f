use Rattle.std.proofs.Common.{◌≡◌, ◌∙◌, ◌+◌, ◌<◌, ◌&&◌, Bool, true, false, ap, arith, drop, length, sym}
use Rattle.std.specs.List.{list_all}
use Rattle.lt_ring.specs.Seen.{is_alike}
use Rattle.lt_ring.proofs.Places.{next_at}
use Rattle.lt_ring.proofs.nodes.Nodes.are_like.Goals as goal

pub loop-place-preserved : goal.loop-place-preserved
loop-place-preserved c =
    let test = is_alike c.args.first.now in
    let node = c.at.result.now in
    let left = drop (c.loop-place.place + 1) c.args.self.now in
    let inside : c.loop-place.place < length c.args.self.now = omega (arith, c.loop-place-test.true, c.loop-place.auto.place-end, c.count-place-end.ensures) in
    let here : test node ≡ true = sym c.is_alike.ensures ∙ c.if-not-is_alike.false in
    sym (ap (list_all test) (next_at c.args.self.now c.loop-place.place node inside c.at.ensures) ∙ ap (λ (b : Bool). b && list_all test left) here)
    ∙ c.loop-place.invariant

pub returns-then-not-is_alike : goal.returns-then-not-is_alike
returns-then-not-is_alike c =
    let test = is_alike c.args.first.now in
    let node = c.at.result.now in
    let left = drop (c.loop-place.place + 1) c.args.self.now in
    let inside : c.loop-place.place < length c.args.self.now = omega (arith, c.loop-place-test.true, c.loop-place.auto.place-end, c.count-place-end.ensures) in
    let here : test node ≡ false = sym c.is_alike.ensures ∙ c.if-not-is_alike.true in
    sym (ap (list_all test) (next_at c.args.self.now c.loop-place.place node inside c.at.ensures) ∙ ap (λ (b : Bool). b && list_all test left) here)
    ∙ c.loop-place.invariant
