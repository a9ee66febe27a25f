use Rattle.std.proofs.Common.{◌∙◌, ◌<◌, length, ap, refl, subst, sym, arith, List}
use Rattle.lt_modes.specs.Script.{ScriptData, SetData, family_at}
use Rattle.lt_node.specs.NodeData.{NodeData, state_of}
use Rattle.lt_node.proofs.FamilyLemmas.{GoesOn, IsHere, walk_here, walk_on, walk_over, walk_smaller, walk_start}
use Rattle.lt_node.proofs.TouchedLemmas.{IsCountedTo, counted_all, counted_past, counted_more, counted_out_of_room}
use Rattle.lt_node.proofs.node.Node.leaves_room_to_drop.Goals as goal

pub loop-next-init : goal.loop-next-init
loop-next-init c =
    let n = c.args.self.now in
    let sets = ap (λ (s : ScriptData). s.sets) c.kept-script.ensures ∙ ap (λ (n : NodeData). n.script.sets) c.self.view_is in
    let first = c.first_related.ensures in
    walk_start c.kept-script.result.now c.args.set c.first_related.result (subst (λ (l : List SetData). c.args.set < length l) (sym sets) c.requires) first.related first.earlier first.first
    (subst (λ (l : List SetData). GoesOn l (family_at l c.args.set) (λ k. IsCountedTo n.script (state_of n) c.args.client c.args.set c.args.other k 0)) (sym sets)
    (counted_past n.script (state_of n) c.args.client c.args.set c.args.other 0))
    (record { within = refl; asks = refl; all = omega arith; few = omega arith })

pub returns-in-None : goal.returns-in-None
returns-in-None c =
    let n = c.args.self.now in
    let sets = ap (λ (s : ScriptData). s.sets) c.kept-script.ensures ∙ ap (λ (n : NodeData). n.script.sets) c.self.view_is in
    let here = subst (λ (l : List SetData). IsHere l (family_at l c.args.set) (λ k. IsCountedTo n.script (state_of n) c.args.client c.args.set c.args.other k c.loop-next.locks) c.in-Some.k) sets
    (walk_here c.loop-next.next c.in-Some.k c.loop-next.invariant c.in-Some.is) in
    sym (counted_out_of_room n.script (state_of n) c.args.client c.args.set c.args.other c.in-Some.k c.loop-next.locks here.at here.inside here.mine (sym c.in-None.ensures.dropped))

pub loop-next-preserved : goal.loop-next-preserved
loop-next-preserved c =
    let n = c.args.self.now in
    let sets = ap (λ (s : ScriptData). s.sets) c.kept-script.ensures ∙ ap (λ (n : NodeData). n.script.sets) c.self.view_is in
    let read = walk_here c.loop-next.next c.in-Some.k c.loop-next.invariant c.in-Some.is in
    let here = subst (λ (l : List SetData). IsHere l (family_at l c.args.set) (λ k. IsCountedTo n.script (state_of n) c.args.client c.args.set c.args.other k c.loop-next.locks) c.in-Some.k) sets read in
    let next = c.next_related-next.ensures in
    let all = c.in-Some-with_dropped.all in
    walk_on c.kept-script.result.now c.args.set c.in-Some.k c.next_related-next.result read.inside read.mine next.next next.last
    (subst (λ (l : List SetData). GoesOn l (family_at l c.args.set) (λ k. IsCountedTo n.script (state_of n) c.args.client c.args.set c.args.other k all)) (sym sets)
    (counted_past n.script (state_of n) c.args.client c.args.set c.args.other all))
    (counted_more n.script (state_of n) c.args.client c.args.set c.args.other c.in-Some.k c.loop-next.locks all here.at here.inside here.mine (sym c.with_dropped.ensures.dropped ∙ c.in-Some-with_dropped.is))

pub first_related-requires : goal.first_related-requires
first_related-requires c =
    let sets = ap (λ (s : ScriptData). s.sets) c.kept-script.ensures ∙ ap (λ (n : NodeData). n.script.sets) c.self.view_is in
    subst (λ (l : List SetData). c.args.set < length l) (sym sets) c.requires

pub with_dropped-requires-clause-set : goal.with_dropped-requires-clause-set
with_dropped-requires-clause-set c =
    let sets = ap (λ (s : ScriptData). s.sets) c.kept-script.ensures ∙ ap (λ (n : NodeData). n.script.sets) c.self.view_is in
    subst (λ (l : List SetData). c.in-Some.k < length l) sets (walk_here c.loop-next.next c.in-Some.k c.loop-next.invariant c.in-Some.is).inside

pub with_dropped-requires-clause-few : goal.with_dropped-requires-clause-few
with_dropped-requires-clause-few c = (walk_here c.loop-next.next c.in-Some.k c.loop-next.invariant c.in-Some.is).at.few

pub next_related-next-requires : goal.next_related-next-requires
next_related-next-requires c = (walk_here c.loop-next.next c.in-Some.k c.loop-next.invariant c.in-Some.is).inside

pub loop-next-smaller : goal.loop-next-smaller
loop-next-smaller c =
    let here = walk_here c.loop-next.next c.in-Some.k c.loop-next.invariant c.in-Some.is in
    walk_smaller c.kept-script.result.now c.in-Some.k c.loop-next.next c.next_related-next.result c.in-Some.is here.inside c.next_related-next.ensures.next

pub returns : goal.returns
returns c =
    let n = c.args.self.now in
    let sets = ap (λ (s : ScriptData). s.sets) c.kept-script.ensures ∙ ap (λ (n : NodeData). n.script.sets) c.self.view_is in
    sym (counted_all n.script (state_of n) c.args.client c.args.set c.args.other c.loop-next.locks
    (subst (λ (l : List SetData). IsCountedTo n.script (state_of n) c.args.client c.args.set c.args.other (length l) c.loop-next.locks) sets (walk_over c.loop-next.next c.loop-next.invariant c.in_default.is)))
