use Rattle.std.proofs.Common.{◌≡◌, ◌∙◌, ◌+◌, ◌<◌, ◌||◌, Bool, true, false, ap, arith, drop, length, sym}
use Rattle.std.specs.List.{list_any}
use Rattle.lt_ring.specs.Seen.{is_behind_at}
use Rattle.lt_ring.proofs.Places.{next_at}
use Rattle.lt_ring.proofs.nodes.Nodes.is_behind.Goals as goal

pub loop-place-preserved : goal.loop-place-preserved
loop-place-preserved c =
    let test = is_behind_at c.args.set c.args.client c.args.other in
    let node = c.at.result.now in
    let left = drop (c.loop-place.place + 1) c.args.self.now in
    let inside : c.loop-place.place < length c.args.self.now = omega (arith, c.loop-place-test.true, c.loop-place.auto.place-end, c.count-place-end.ensures) in
    let here : test node ≡ false = sym c.is_behind_at.ensures ∙ c.if-is_behind_at.false in
    sym (ap (list_any test) (next_at c.args.self.now c.loop-place.place node inside c.at.ensures) ∙ ap (λ (b : Bool). b || list_any test left) here)
    ∙ c.loop-place.invariant

pub returns-then-is_behind_at : goal.returns-then-is_behind_at
returns-then-is_behind_at c =
    let test = is_behind_at c.args.set c.args.client c.args.other in
    let node = c.at.result.now in
    let left = drop (c.loop-place.place + 1) c.args.self.now in
    let inside : c.loop-place.place < length c.args.self.now = omega (arith, c.loop-place-test.true, c.loop-place.auto.place-end, c.count-place-end.ensures) in
    let here : test node ≡ true = sym c.is_behind_at.ensures ∙ c.if-is_behind_at.true in
    sym (ap (list_any test) (next_at c.args.self.now c.loop-place.place node inside c.at.ensures) ∙ ap (λ (b : Bool). b || list_any test left) here)
    ∙ c.loop-place.invariant
