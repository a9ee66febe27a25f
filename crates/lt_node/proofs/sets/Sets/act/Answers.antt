use Rattle.std.proofs.Common.{◌∙◌, ap, length, subst, sym}
use Rattle.lt_core.specs.CoreData.{CoreData, answer_of, move_of}
use Rattle.lt_node.specs.NodeData.{IsSetReady}
use Rattle.lt_node.specs.Sets.{SetsData}
use Rattle.lt_node.proofs.CountLemmas.{few_left}
use Rattle.lt_node.proofs.StoredLemmas.{has_place, in_hand, in_places, may_leave, set_moved, stored_moved}
use Rattle.lt_node.proofs.TouchLemmas.{fits_at, tells_at}
use Rattle.lt_node.specs.Sets.{core_of}
use Rattle.lt_node.proofs.sets.Sets.act.Goals as goal

pub place_of-place-requires-clause-inside : goal.place_of-place-requires-clause-inside
place_of-place-requires-clause-inside c = in_places c.self.inside.nodes c.self.inside.me c.self.inside.places.items c.self.inside.cores.items c.args.self.now c.self.view_is c.args.set c.requires.set

pub place_of-place-requires-clause-touched : goal.place_of-place-requires-clause-touched
place_of-place-requires-clause-touched c = has_place c.self.inside.nodes c.self.inside.me c.self.inside.places.items c.self.inside.cores.items c.args.self.now c.self.view_is c.args.set (tells_at c.args.client c.args.command c.args.stamp.clock _ c.args.out.now c.requires.ready)

pub wait_less-requires : goal.wait_less-requires
wait_less-requires c =
    let hand = in_hand c.self.inside.nodes c.self.inside.me c.self.inside.first c.self.inside.places.items c.self.inside.cores.items c.self.inside.waiting.items c.args.self.now c.args.set c.place_of-place.result c.index_mut-core.result.now c.self.invariant c.self.view_is c.requires.set c.place_of-place.ensures c.index_mut-core.ensures.value in
    may_leave c.self.inside.nodes c.self.inside.me c.self.inside.first c.self.inside.places.items c.self.inside.cores.items c.self.inside.waiting.items c.self.invariant c.args.self.now c.self.view_is c.args.set c.place_of-place.result c.index_mut-core.result.now c.index_mut-core.result.now hand c.asks.result.now c.gone.result.now c.asks.ensures c.gone.ensures

pub wait_more-requires : goal.wait_more-requires
wait_more-requires c =
    few_left (length c.self.inside.places.items) (core_of c.self.inside.nodes c.self.inside.me c.self.inside.places.items c.self.inside.cores.items) c.asks.result.now c.gone.result.now c.self.inside.waiting.items c.wait_less.new.counts.items c.self.invariant.waiting c.self.invariant.few_sets c.wait_less.ensures

pub invariant_of-self : goal.invariant_of-self
invariant_of-self c =
    let hand = in_hand c.self.inside.nodes c.self.inside.me c.self.inside.first c.self.inside.places.items c.self.inside.cores.items c.self.inside.waiting.items c.args.self.now c.args.set c.place_of-place.result c.index_mut-core.result.now c.self.invariant c.self.view_is c.requires.set c.place_of-place.ensures c.index_mut-core.ensures.value in
    stored_moved c.self.inside.nodes c.self.inside.me c.self.inside.first c.self.inside.places.items c.self.inside.cores.items c.self.inside.waiting.items c.self.invariant c.args.self.now c.self.view_is c.args.set c.place_of-place.result c.index_mut-core.result.now c.act-answer.new.self hand _ c.args.out.now c.act-answer.new.out c.asks.result.now c.asks-2.result.now c.gone.result.now c.gone-2.result.now c.wait_less.new.counts.items c.wait_more.new.counts.items
    c.act-answer.ensures.does c.asks.ensures c.gone.ensures c.asks-2.ensures c.gone-2.ensures c.wait_less.ensures c.wait_more.ensures

pub returns-clause-does : goal.returns-clause-does
returns-clause-does c =
    let hand = in_hand c.self.inside.nodes c.self.inside.me c.self.inside.first c.self.inside.places.items c.self.inside.cores.items c.self.inside.waiting.items c.args.self.now c.args.set c.place_of-place.result c.index_mut-core.result.now c.self.invariant c.self.view_is c.requires.set c.place_of-place.ensures c.index_mut-core.ensures.value in
    set_moved c.self.inside.nodes c.self.inside.me c.self.inside.first c.self.inside.places.items c.self.inside.cores.items c.self.inside.waiting.items c.self.invariant c.args.self.now c.self.view_is c.args.set c.place_of-place.result c.index_mut-core.result.now c.act-answer.new.self hand (λ set state. move_of c.args.stamp c.args.client c.args.command set state) c.args.out.now c.act-answer.new.out c.act-answer.ensures.does

pub returns-clause-answer : goal.returns-clause-answer
returns-clause-answer c =
    let hand = in_hand c.self.inside.nodes c.self.inside.me c.self.inside.first c.self.inside.places.items c.self.inside.cores.items c.self.inside.waiting.items c.args.self.now c.args.set c.place_of-place.result c.index_mut-core.result.now c.self.invariant c.self.view_is c.requires.set c.place_of-place.ensures c.index_mut-core.ensures.value in
    c.act-answer.ensures.answer ∙ ap (λ (x : CoreData). answer_of c.args.stamp.node c.args.client c.args.command x.state) hand.core_is

pub act-answer-requires-clause-node : goal.act-answer-requires-clause-node
act-answer-requires-clause-node c =
    let hand = in_hand c.self.inside.nodes c.self.inside.me c.self.inside.first c.self.inside.places.items c.self.inside.cores.items c.self.inside.waiting.items c.args.self.now c.args.set c.place_of-place.result c.index_mut-core.result.now c.self.invariant c.self.view_is c.requires.set c.place_of-place.ensures c.index_mut-core.ensures.value in
    c.requires.node ∙ sym (ap (λ (d : SetsData). d.me) c.self.view_is) ∙ sym hand.own.node

pub act-answer-requires-clause-room : goal.act-answer-requires-clause-room
act-answer-requires-clause-room c =
    let hand = in_hand c.self.inside.nodes c.self.inside.me c.self.inside.first c.self.inside.places.items c.self.inside.cores.items c.self.inside.waiting.items c.args.self.now c.args.set c.place_of-place.result c.index_mut-core.result.now c.self.invariant c.self.view_is c.requires.set c.place_of-place.ensures c.index_mut-core.ensures.value in
    (subst (λ (x : CoreData). IsSetReady c.args.client c.args.command c.args.stamp.clock x c.args.out.now) (sym hand.core_is) c.requires.ready).room

pub act-answer-requires-clause-fits : goal.act-answer-requires-clause-fits
act-answer-requires-clause-fits c =
    let hand = in_hand c.self.inside.nodes c.self.inside.me c.self.inside.first c.self.inside.places.items c.self.inside.cores.items c.self.inside.waiting.items c.args.self.now c.args.set c.place_of-place.result c.index_mut-core.result.now c.self.invariant c.self.view_is c.requires.set c.place_of-place.ensures c.index_mut-core.ensures.value in
    fits_at c.args.stamp.clock c.index_mut-core.result.now c.args.out.now c.args.stamp c.args.client c.args.command
    (subst (λ (x : CoreData). IsSetReady c.args.client c.args.command c.args.stamp.clock x c.args.out.now) (sym hand.core_is) c.requires.ready)
