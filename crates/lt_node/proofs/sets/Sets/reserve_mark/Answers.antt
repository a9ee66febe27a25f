use Rattle.std.proofs.Common.{◌∙◌, ◌≤◌, IsOk, OnOk, ap, arith, subst, sym}
use Rattle.std.proofs.lemmas.Bool.{false≢true}
use Rattle.lt_core.specs.CoreData.{CoreData, HasMemory}
use Rattle.lt_node.specs.Sets.{SetsData, core_in}
use Rattle.lt_node.proofs.NodeLemmas.{kept_one}
use Rattle.lt_node.proofs.StoredLemmas.{in_hand, memory_kept, in_places, now_here, now_other, same_count, same_then, sets_kept, stored_kept, touched_seen}
use Rattle.lt_node.proofs.sets.Sets.reserve_mark.Goals as goal

pub place_of-place-requires-clause-inside : goal.place_of-place-requires-clause-inside
place_of-place-requires-clause-inside c =
    in_places c.self.inside.nodes c.self.inside.me c.self.inside.places.items c.self.inside.cores.items c.touch.new.self c.self.view_is c.args.set (omega (arith, c.requires.set, same_count c.args.self.now c.touch.new.self c.touch.ensures.same))

pub place_of-place-requires-clause-touched : goal.place_of-place-requires-clause-touched
place_of-place-requires-clause-touched c = touched_seen c.self.inside.nodes c.self.inside.me c.self.inside.places.items c.self.inside.cores.items c.touch.new.self c.self.view_is c.args.set c.in_ok-touch.ensures.touched

pub invariant_of-self : goal.invariant_of-self
invariant_of-self c =
    let hand = (in_hand c.self.inside.nodes c.self.inside.me c.self.inside.first c.self.inside.places.items c.self.inside.cores.items c.self.inside.waiting.items c.touch.new.self c.args.set c.place_of-place.result c.index_mut.result.now c.self.invariant c.self.view_is
    (omega (arith, c.requires.set, same_count c.args.self.now c.touch.new.self c.touch.ensures.same)) c.place_of-place.ensures c.index_mut.ensures.value) in
    stored_kept c.self.inside.nodes c.self.inside.me c.self.inside.first c.self.inside.places.items c.self.inside.cores.items c.self.inside.waiting.items c.self.invariant c.touch.new.self c.self.view_is c.args.set c.place_of-place.result c.index_mut.result.now c.reserve_mark.new.self hand (kept_one c.index_mut.result.now c.reserve_mark.new.self c.reserve_mark.ensures.state c.reserve_mark.ensures.place)

pub returns-clause-same : goal.returns-clause-same
returns-clause-same c =
    let hand = (in_hand c.self.inside.nodes c.self.inside.me c.self.inside.first c.self.inside.places.items c.self.inside.cores.items c.self.inside.waiting.items c.touch.new.self c.args.set c.place_of-place.result c.index_mut.result.now c.self.invariant c.self.view_is
    (omega (arith, c.requires.set, same_count c.args.self.now c.touch.new.self c.touch.ensures.same)) c.place_of-place.ensures c.index_mut.ensures.value) in
    same_then c.args.self.now c.touch.new.self _ c.touch.ensures.same
    (sets_kept c.self.inside.nodes c.self.inside.me c.self.inside.first c.self.inside.places.items c.self.inside.cores.items c.self.inside.waiting.items c.self.invariant c.touch.new.self c.self.view_is c.args.set c.place_of-place.result c.index_mut.result.now c.reserve_mark.new.self hand (kept_one c.index_mut.result.now c.reserve_mark.new.self c.reserve_mark.ensures.state c.reserve_mark.ensures.place))

pub returns-clause-others : goal.returns-clause-others
returns-clause-others c = λ other differ.
    let hand = (in_hand c.self.inside.nodes c.self.inside.me c.self.inside.first c.self.inside.places.items c.self.inside.cores.items c.self.inside.waiting.items c.touch.new.self c.args.set c.place_of-place.result c.index_mut.result.now c.self.invariant c.self.view_is
    (omega (arith, c.requires.set, same_count c.args.self.now c.touch.new.self c.touch.ensures.same)) c.place_of-place.ensures c.index_mut.ensures.value) in
    now_other c.self.inside.nodes c.self.inside.me c.self.inside.first c.self.inside.places.items c.self.inside.cores.items c.self.inside.waiting.items c.self.invariant c.touch.new.self c.self.view_is c.args.set c.place_of-place.result c.index_mut.result.now c.reserve_mark.new.self hand other differ
    ∙ c.touch.ensures.others other differ

pub returns-in_err-touch-clause-full : goal.returns-in_err-touch-clause-full
returns-in_err-touch-clause-full c = λ memory mark.
    absurd (false≢true (subst (λ r. IsOk r) c.in_err-touch.was (c.touch.ensures.full memory)))

pub returns-in_err-touch-clause-kept : goal.returns-in_err-touch-clause-kept
returns-in_err-touch-clause-kept c = λ memory.
    subst (λ (d : SetsData). HasMemory 0 (core_in d c.args.set)) (sym (c.touch.ensures.had memory)) memory

pub returns-clause-room : goal.returns-clause-room
returns-clause-room c =
    let hand = (in_hand c.self.inside.nodes c.self.inside.me c.self.inside.first c.self.inside.places.items c.self.inside.cores.items c.self.inside.waiting.items c.touch.new.self c.args.set c.place_of-place.result c.index_mut.result.now c.self.invariant c.self.view_is
    (omega (arith, c.requires.set, same_count c.args.self.now c.touch.new.self c.touch.ensures.same)) c.place_of-place.ensures c.index_mut.ensures.value) in
    subst (λ (x : CoreData). OnOk c.reserve_mark.result (1 ≤ x.mark_room)) (sym (now_here c.self.inside.nodes c.self.inside.me c.self.inside.first c.self.inside.places.items c.self.inside.cores.items c.self.inside.waiting.items c.self.invariant c.touch.new.self c.self.view_is c.args.set c.place_of-place.result c.index_mut.result.now c.reserve_mark.new.self hand)) c.reserve_mark.ensures.room

pub returns-clause-kept : goal.returns-clause-kept
returns-clause-kept c = λ memory.
    let hand = (in_hand c.self.inside.nodes c.self.inside.me c.self.inside.first c.self.inside.places.items c.self.inside.cores.items c.self.inside.waiting.items c.touch.new.self c.args.set c.place_of-place.result c.index_mut.result.now c.self.invariant c.self.view_is
    (omega (arith, c.requires.set, same_count c.args.self.now c.touch.new.self c.touch.ensures.same)) c.place_of-place.ensures c.index_mut.ensures.value) in
    let same = ap (λ (d : SetsData). core_in d c.args.set) (c.touch.ensures.had memory) in
    let had = subst (λ (x : CoreData). HasMemory 0 x) (sym (hand.core_is ∙ same)) memory in
    subst (λ (x : CoreData). HasMemory 0 x) (sym (now_here c.self.inside.nodes c.self.inside.me c.self.inside.first c.self.inside.places.items c.self.inside.cores.items c.self.inside.waiting.items c.self.invariant c.touch.new.self c.self.view_is c.args.set c.place_of-place.result c.index_mut.result.now c.reserve_mark.new.self hand))
    (memory_kept c.index_mut.result.now c.reserve_mark.new.self c.reserve_mark.ensures.state c.reserve_mark.ensures.kept had)

pub returns-clause-full : goal.returns-clause-full
returns-clause-full c = λ memory mark.
    let hand = (in_hand c.self.inside.nodes c.self.inside.me c.self.inside.first c.self.inside.places.items c.self.inside.cores.items c.self.inside.waiting.items c.touch.new.self c.args.set c.place_of-place.result c.index_mut.result.now c.self.invariant c.self.view_is
    (omega (arith, c.requires.set, same_count c.args.self.now c.touch.new.self c.touch.ensures.same)) c.place_of-place.ensures c.index_mut.ensures.value) in
    let same = ap (λ (d : SetsData). core_in d c.args.set) (c.touch.ensures.had memory) in
    c.reserve_mark.ensures.full (omega (arith, mark, ap (λ (x : CoreData). x.mark_room) (hand.core_is ∙ same)))
