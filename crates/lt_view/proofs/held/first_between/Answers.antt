use Rattle.std.proofs.Common.{◌≡◌, ◌∙◌, ◌-◌, ◌+◌, ℕ, zero, true, false, Some, sym, ap, arith}
use Rattle.lt_node.specs.NodeData.{state_of}
use Rattle.lt_view.specs.View.{held_among}
use Rattle.lt_view.proofs.Among.{among_step, among_stays}
use Rattle.lt_view.proofs.held.first_between.Goals as goal

pub loop-set-init : goal.loop-set-init
loop-set-init c =
    let none : c.args.from - c.args.from ≡ zero = omega (arith) in
    ap (held_among (state_of c.args.node.now) c.args.client c.args.from) none

pub loop-set-preserved : goal.loop-set-preserved
loop-set-preserved c =
    among_step (state_of c.args.node.now) c.args.client c.args.from c.loop-set.set false c.loop-set.auto.set c.loop-set.invariant
    (sym c.holds_in.ensures ∙ c.if-holds_in.false)

pub returns-then-holds_in : goal.returns-then-holds_in
returns-then-holds_in c =
    let n = state_of c.args.node.now in
    let k : ℕ = c.loop-set.set in
    let found : held_among n c.args.client c.args.from (k + 1 - c.args.from) ≡ Some k =
    among_step n c.args.client c.args.from k true c.loop-set.auto.set c.loop-set.invariant (sym c.holds_in.ensures ∙ c.if-holds_in.true) in
    sym (among_stays n c.args.client c.args.from (k + 1 - c.args.from) (c.args.end - c.args.from) k (omega (arith, c.loop-set-test.true, c.loop-set.auto.set)) found)

pub returns : goal.returns
returns c =
    let end : c.args.end ≡ c.loop-set.set = omega (arith, c.loop-set-test.false, c.loop-set.auto.set-end, c.requires.order) in
    sym (ap (λ (e : ℕ). held_among (state_of c.args.node.now) c.args.client c.args.from (e - c.args.from)) end ∙ c.loop-set.invariant)
