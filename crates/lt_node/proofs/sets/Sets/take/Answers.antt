use Rattle.std.proofs.Common.{◌∙◌, ap, length, subst, sym}
use Rattle.lt_desk.specs.DeskData.{FitsOut}
use Rattle.lt_desk.specs.LetterSeen.{letter_seen}
use Rattle.lt_modes.specs.Taking.{take}
use Rattle.lt_core.specs.CoreData.{CoreData, HasRoom, RoomForBody}
use Rattle.lt_node.specs.Sets.{SetsData}
use Rattle.lt_node.proofs.CountLemmas.{few_left}
use Rattle.lt_node.proofs.StoredLemmas.{has_place, in_hand, in_places, may_leave, set_moved, stored_moved}
use Rattle.lt_node.specs.Sets.{core_of}
use Rattle.lt_node.proofs.sets.Sets.take.Goals as goal

pub place_of-place-requires-clause-inside : goal.place_of-place-requires-clause-inside
place_of-place-requires-clause-inside c = in_places c.self.inside.nodes c.self.inside.me c.self.inside.places.items c.self.inside.cores.items c.args.self.now c.self.view_is c.args.letter.set c.requires.set

pub place_of-place-requires-clause-touched : goal.place_of-place-requires-clause-touched
place_of-place-requires-clause-touched c = has_place c.self.inside.nodes c.self.inside.me c.self.inside.places.items c.self.inside.cores.items c.args.self.now c.self.view_is c.args.letter.set c.requires.room.tells

pub wait_less-requires : goal.wait_less-requires
wait_less-requires c =
    let hand = in_hand c.self.inside.nodes c.self.inside.me c.self.inside.first c.self.inside.places.items c.self.inside.cores.items c.self.inside.waiting.items c.args.self.now c.args.letter.set c.place_of-place.result c.index_mut-core.result.now c.self.invariant c.self.view_is c.requires.set c.place_of-place.ensures c.index_mut-core.ensures.value in
    may_leave c.self.inside.nodes c.self.inside.me c.self.inside.first c.self.inside.places.items c.self.inside.cores.items c.self.inside.waiting.items c.self.invariant c.args.self.now c.self.view_is c.args.letter.set c.place_of-place.result c.index_mut-core.result.now c.index_mut-core.result.now hand c.asks.result.now c.gone.result.now c.asks.ensures c.gone.ensures

pub wait_more-requires : goal.wait_more-requires
wait_more-requires c =
    few_left (length c.self.inside.places.items) (core_of c.self.inside.nodes c.self.inside.me c.self.inside.places.items c.self.inside.cores.items) c.asks.result.now c.gone.result.now c.self.inside.waiting.items c.wait_less.new.counts.items c.self.invariant.waiting c.self.invariant.few_sets c.wait_less.ensures

pub invariant_of-self : goal.invariant_of-self
invariant_of-self c =
    let hand = in_hand c.self.inside.nodes c.self.inside.me c.self.inside.first c.self.inside.places.items c.self.inside.cores.items c.self.inside.waiting.items c.args.self.now c.args.letter.set c.place_of-place.result c.index_mut-core.result.now c.self.invariant c.self.view_is c.requires.set c.place_of-place.ensures c.index_mut-core.ensures.value in
    stored_moved c.self.inside.nodes c.self.inside.me c.self.inside.first c.self.inside.places.items c.self.inside.cores.items c.self.inside.waiting.items c.self.invariant c.args.self.now c.self.view_is c.args.letter.set c.place_of-place.result c.index_mut-core.result.now c.take.new.self hand _ c.args.out.now c.take.new.out c.asks.result.now c.asks-2.result.now c.gone.result.now c.gone-2.result.now c.wait_less.new.counts.items c.wait_more.new.counts.items
    c.take.ensures.does c.asks.ensures c.gone.ensures c.asks-2.ensures c.gone-2.ensures c.wait_less.ensures c.wait_more.ensures

pub returns : goal.returns
returns c =
    let hand = in_hand c.self.inside.nodes c.self.inside.me c.self.inside.first c.self.inside.places.items c.self.inside.cores.items c.self.inside.waiting.items c.args.self.now c.args.letter.set c.place_of-place.result c.index_mut-core.result.now c.self.invariant c.self.view_is c.requires.set c.place_of-place.ensures c.index_mut-core.ensures.value in
    record { does = set_moved c.self.inside.nodes c.self.inside.me c.self.inside.first c.self.inside.places.items c.self.inside.cores.items c.self.inside.waiting.items c.self.invariant c.args.self.now c.self.view_is c.args.letter.set c.place_of-place.result c.index_mut-core.result.now c.take.new.self hand (λ set state. take c.args.stamp (letter_seen c.args.letter) state) c.args.out.now c.take.new.out c.take.ensures.does }

pub take-requires-clause-node : goal.take-requires-clause-node
take-requires-clause-node c =
    let hand = in_hand c.self.inside.nodes c.self.inside.me c.self.inside.first c.self.inside.places.items c.self.inside.cores.items c.self.inside.waiting.items c.args.self.now c.args.letter.set c.place_of-place.result c.index_mut-core.result.now c.self.invariant c.self.view_is c.requires.set c.place_of-place.ensures c.index_mut-core.ensures.value in
    c.requires.node ∙ sym (ap (λ (d : SetsData). d.me) c.self.view_is) ∙ sym hand.own.node

pub take-requires-clause-set : goal.take-requires-clause-set
take-requires-clause-set c =
    let hand = in_hand c.self.inside.nodes c.self.inside.me c.self.inside.first c.self.inside.places.items c.self.inside.cores.items c.self.inside.waiting.items c.args.self.now c.args.letter.set c.place_of-place.result c.index_mut-core.result.now c.self.invariant c.self.view_is c.requires.set c.place_of-place.ensures c.index_mut-core.ensures.value in
    sym hand.own.set

pub take-requires-clause-room : goal.take-requires-clause-room
take-requires-clause-room c =
    let hand = in_hand c.self.inside.nodes c.self.inside.me c.self.inside.first c.self.inside.places.items c.self.inside.cores.items c.self.inside.waiting.items c.args.self.now c.args.letter.set c.place_of-place.result c.index_mut-core.result.now c.self.invariant c.self.view_is c.requires.set c.place_of-place.ensures c.index_mut-core.ensures.value in
    subst (λ (x : CoreData). HasRoom 2 c.args.stamp.clock x) (sym hand.core_is) c.requires.room

pub take-requires-clause-desk : goal.take-requires-clause-desk
take-requires-clause-desk c =
    let hand = in_hand c.self.inside.nodes c.self.inside.me c.self.inside.first c.self.inside.places.items c.self.inside.cores.items c.self.inside.waiting.items c.args.self.now c.args.letter.set c.place_of-place.result c.index_mut-core.result.now c.self.invariant c.self.view_is c.requires.set c.place_of-place.ensures c.index_mut-core.ensures.value in
    subst (λ (x : CoreData). RoomForBody c.args.stamp.clock x c.args.letter.body) (sym hand.core_is) c.requires.desk

pub take-requires-clause-fits : goal.take-requires-clause-fits
take-requires-clause-fits c =
    let hand = in_hand c.self.inside.nodes c.self.inside.me c.self.inside.first c.self.inside.places.items c.self.inside.cores.items c.self.inside.waiting.items c.args.self.now c.args.letter.set c.place_of-place.result c.index_mut-core.result.now c.self.invariant c.self.view_is c.requires.set c.place_of-place.ensures c.index_mut-core.ensures.value in
    subst (λ (x : CoreData). FitsOut (take c.args.stamp (letter_seen c.args.letter) x.state) c.args.out.now) (sym hand.core_is) c.requires.fits
