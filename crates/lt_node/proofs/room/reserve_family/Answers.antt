use Rattle.std.proofs.Common.{◌+◌, ◌<◌, ◌∙◌, IsOk, ℕ, arith, subst, sym}
use Rattle.std.proofs.lemmas.Bool.{false≢true}
use Rattle.lt_node.proofs.FamilyLemmas.{walk_here, walk_on, walk_over, walk_smaller, walk_start}
use Rattle.lt_node.proofs.RoomLemmas.{reserved_asks, reserved_had, reserved_more, reserved_none, reserved_past, reserved_room, reserved_sent}
use Rattle.lt_node.proofs.StoredLemmas.{same_count, same_then}
use Rattle.lt_node.proofs.room.reserve_family.Goals as goal

pub loop-next-init : goal.loop-next-init
loop-next-init c =
    let first = c.first_related.ensures in
    walk_start c.args.script.now c.args.set c.first_related.result c.requires.set first.related first.earlier first.first
    (reserved_past c.args.script.now c.args.set 0 c.args.sets.now c.args.sets.now) (reserved_none c.args.script.now c.args.set c.args.sets.now c.requires.few)

pub reserve_set-requires-clause-few : goal.reserve_set-requires-clause-few
reserve_set-requires-clause-few c =
    let here = walk_here c.loop-next.next c.in-Some.k c.loop-next.invariant c.in-Some.is in
    reserved_asks c.args.script.now c.args.set c.in-Some.k c.loop-next.sent c.args.sets.now c.loop-next.sets here.at here.inside here.mine

pub returns-in_err-sent-clause-full : goal.returns-in_err-sent-clause-full
returns-in_err-sent-clause-full c = λ memory.
    let here = walk_here c.loop-next.next c.in-Some.k c.loop-next.invariant c.in-Some.is in
    let had = reserved_had c.args.script.now c.args.set c.in-Some.k c.loop-next.sent c.args.sets.now c.loop-next.sets here.at here.inside here.mine memory in
    absurd (false≢true (subst (λ r. IsOk r) c.in_err-sent.was (c.reserve_set.ensures.full had)))

pub loop-next-preserved : goal.loop-next-preserved
loop-next-preserved c =
    let here = walk_here c.loop-next.next c.in-Some.k c.loop-next.invariant c.in-Some.is in
    let next = c.next_related-next.ensures in
    let did = c.in_ok-sent.ensures in
    walk_on c.args.script.now c.args.set c.in-Some.k c.next_related-next.result here.inside here.mine next.next next.last
    (reserved_past c.args.script.now c.args.set (c.loop-next.sent + c.in_ok-sent.field-0) c.args.sets.now c.reserve_set.new.sets)
    (reserved_more c.args.script.now c.args.set c.in-Some.k c.loop-next.sent c.in_ok-sent.field-0 c.args.sets.now c.loop-next.sets c.reserve_set.new.sets here.at here.inside here.mine
    did.same did.others did.room did.sent did.small)

pub returns-clause-room : goal.returns-clause-room
returns-clause-room c =
    reserved_room c.args.script.now c.args.set c.loop-next.sent c.args.sets.now c.loop-next.sets (walk_over c.loop-next.next c.loop-next.invariant c.in_default.is)

pub returns-clause-sent : goal.returns-clause-sent
returns-clause-sent c =
    reserved_sent c.args.script.now c.args.set c.loop-next.sent c.args.sets.now c.loop-next.sets (walk_over c.loop-next.next c.loop-next.invariant c.in_default.is)

pub first_related-requires : goal.first_related-requires
first_related-requires c = c.requires.set

pub next_related-next-requires : goal.next_related-next-requires
next_related-next-requires c = (walk_here c.loop-next.next c.in-Some.k c.loop-next.invariant c.in-Some.is).inside

pub loop-next-smaller : goal.loop-next-smaller
loop-next-smaller c =
    let here = walk_here c.loop-next.next c.in-Some.k c.loop-next.invariant c.in-Some.is in
    walk_smaller c.args.script.now c.in-Some.k c.loop-next.next c.next_related-next.result c.in-Some.is here.inside c.next_related-next.ensures.next

pub reserve_set-requires-clause-set : goal.reserve_set-requires-clause-set
reserve_set-requires-clause-set c =
    let here = walk_here c.loop-next.next c.in-Some.k c.loop-next.invariant c.in-Some.is in
    subst (λ (n : ℕ). c.in-Some.k < n) (sym (same_count c.args.sets.now c.loop-next.sets here.at.same ∙ c.requires.count)) here.inside

pub returns-in_err-sent-clause-same : goal.returns-in_err-sent-clause-same
returns-in_err-sent-clause-same c =
    let here = walk_here c.loop-next.next c.in-Some.k c.loop-next.invariant c.in-Some.is in
    same_then c.args.sets.now c.loop-next.sets c.reserve_set.new.sets here.at.same c.reserve_set.ensures.same

pub overflow_add-sent : goal.overflow_add-sent
overflow_add-sent c =
    let here = walk_here c.loop-next.next c.in-Some.k c.loop-next.invariant c.in-Some.is in
    omega (arith, here.at.few, c.in_ok-sent.ensures.small, here.inside, c.requires.few_sets)

pub returns-clause-same : goal.returns-clause-same
returns-clause-same c = (walk_over c.loop-next.next c.loop-next.invariant c.in_default.is).same

pub returns-clause-small : goal.returns-clause-small
returns-clause-small c =
    let few = (walk_over c.loop-next.next c.loop-next.invariant c.in_default.is).few in
    omega (arith, few, c.requires.few_sets)
