use Rattle.std.proofs.Common.{◌<◌, ℕ, arith, subst, sym}
use Rattle.lt_node.proofs.FamilyLemmas.{at_ended, at_next, at_past, at_start, walk_here, walk_on, walk_over, walk_smaller, walk_start}
use Rattle.lt_node.proofs.family.end_each.Goals as goal

pub loop-next-init : goal.loop-next-init
loop-next-init c =
    let first = c.first_related.ensures in
    walk_start c.args.script.now c.args.set c.first_related.result c.requires.set first.related first.earlier first.first
    (at_past c.args.script.now c.args.stamp c.args.dropped c.args.set c.args.sets.now c.args.out.now c.args.sets.now c.args.out.now)
    (at_start c.args.script.now c.args.stamp c.args.dropped c.args.set c.args.sets.now c.args.out.now c.requires.sets c.requires.rooms c.requires.send)

pub end-requires-clause-room : goal.end-requires-clause-room
end-requires-clause-room c =
    let here = walk_here c.loop-next.next c.in-Some.k c.loop-next.invariant c.in-Some.is in
    (at_next c.args.script.now c.args.stamp c.args.dropped c.args.set c.args.sets.now c.args.out.now c.in-Some.k c.loop-next.sets c.loop-next.out here.at here.inside here.mine).room

pub end-requires-clause-send : goal.end-requires-clause-send
end-requires-clause-send c =
    let here = walk_here c.loop-next.next c.in-Some.k c.loop-next.invariant c.in-Some.is in
    let send = (at_next c.args.script.now c.args.stamp c.args.dropped c.args.set c.args.sets.now c.args.out.now c.in-Some.k c.loop-next.sets c.loop-next.out here.at here.inside here.mine).send in
    record { posts = omega (arith, send.posts); events = omega (arith, send.events) }

pub loop-next-preserved : goal.loop-next-preserved
loop-next-preserved c =
    let here = walk_here c.loop-next.next c.in-Some.k c.loop-next.invariant c.in-Some.is in
    let next = c.next_related-next.ensures in
    walk_on c.args.script.now c.args.set c.in-Some.k c.next_related-next.result here.inside here.mine next.next next.last
    (at_past c.args.script.now c.args.stamp c.args.dropped c.args.set c.args.sets.now c.args.out.now c.end.new.self c.end.new.out)
    (at_ended c.args.script.now c.args.stamp c.args.dropped c.args.set c.args.sets.now c.args.out.now c.in-Some.k c.loop-next.sets c.end.new.self c.loop-next.out c.end.new.out
    here.at here.inside here.mine c.end.ensures.does c.end.ensures.send)

pub first_related-requires : goal.first_related-requires
first_related-requires c = c.requires.set

pub next_related-next-requires : goal.next_related-next-requires
next_related-next-requires c = (walk_here c.loop-next.next c.in-Some.k c.loop-next.invariant c.in-Some.is).inside

pub loop-next-smaller : goal.loop-next-smaller
loop-next-smaller c =
    let here = walk_here c.loop-next.next c.in-Some.k c.loop-next.invariant c.in-Some.is in
    walk_smaller c.args.script.now c.in-Some.k c.loop-next.next c.next_related-next.result c.in-Some.is here.inside c.next_related-next.ensures.next

pub end-requires-clause-set : goal.end-requires-clause-set
end-requires-clause-set c =
    let here = walk_here c.loop-next.next c.in-Some.k c.loop-next.invariant c.in-Some.is in
    subst (λ (n : ℕ). c.in-Some.k < n) (sym here.at.of.count) here.inside

pub end-requires-clause-node : goal.end-requires-clause-node
end-requires-clause-node c = sym (walk_here c.loop-next.next c.in-Some.k c.loop-next.invariant c.in-Some.is).at.of.node

pub returns-clause-sets : goal.returns-clause-sets
returns-clause-sets c = (walk_over c.loop-next.next c.loop-next.invariant c.in_default.is).of
