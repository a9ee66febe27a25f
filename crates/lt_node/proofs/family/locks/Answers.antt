use Rattle.std.proofs.Common.{◌∙◌, ◌+◌, ◌<◌, ℕ, ap, arith, subst, sym}
use Rattle.lt_modes.specs.Modes.{locks_of}
use Rattle.lt_modes.specs.State.{SetState}
use Rattle.lt_node.proofs.FamilyLemmas.{counted_in, counted_next, counted_past, walk_here, walk_on, walk_smaller, walk_start}
use Rattle.lt_node.proofs.family.locks.Goals as goal

pub loop-next-init : goal.loop-next-init
loop-next-init c =
    let first = c.first_related.ensures in
    walk_start c.args.script.now c.args.set c.first_related.result c.requires.set first.related first.earlier first.first
    (counted_past c.args.script.now c.args.set c.args.client c.args.sets.now 0) (record { left = omega arith })

pub overflow_add-locks : goal.overflow_add-locks
overflow_add-locks c =
    let here = walk_here c.loop-next.next c.in-Some.k c.loop-next.invariant c.in-Some.is in
    let next = counted_next c.args.script.now c.args.set c.args.client c.args.sets.now c.in-Some.k c.loop-next.locks here.at here.inside here.mine in
    let held = c.held_count-locks.ensures ∙ ap (λ (t : SetState). locks_of t.held c.args.client) c.core.ensures.state in
    omega (arith, next, held, c.requires.few)

pub loop-next-preserved : goal.loop-next-preserved
loop-next-preserved c =
    let here = walk_here c.loop-next.next c.in-Some.k c.loop-next.invariant c.in-Some.is in
    let held = c.held_count-locks.ensures ∙ ap (λ (t : SetState). locks_of t.held c.args.client) c.core.ensures.state in
    let next = c.next_related-next.ensures in
    walk_on c.args.script.now c.args.set c.in-Some.k c.next_related-next.result here.inside here.mine next.next next.last
    (counted_past c.args.script.now c.args.set c.args.client c.args.sets.now (c.loop-next.locks + c.held_count-locks.result))
    (counted_in c.args.script.now c.args.set c.args.client c.args.sets.now c.in-Some.k c.loop-next.locks c.held_count-locks.result here.at here.inside here.mine held)

pub first_related-requires : goal.first_related-requires
first_related-requires c = c.requires.set

pub next_related-next-requires : goal.next_related-next-requires
next_related-next-requires c = (walk_here c.loop-next.next c.in-Some.k c.loop-next.invariant c.in-Some.is).inside

pub loop-next-smaller : goal.loop-next-smaller
loop-next-smaller c =
    let here = walk_here c.loop-next.next c.in-Some.k c.loop-next.invariant c.in-Some.is in
    walk_smaller c.args.script.now c.in-Some.k c.loop-next.next c.next_related-next.result c.in-Some.is here.inside c.next_related-next.ensures.next

pub core-requires : goal.core-requires
core-requires c =
    let here = walk_here c.loop-next.next c.in-Some.k c.loop-next.invariant c.in-Some.is in
    subst (λ (n : ℕ). c.in-Some.k < n) (sym c.requires.count) here.inside
