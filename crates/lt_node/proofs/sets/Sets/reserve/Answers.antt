use Rattle.std.proofs.Common.{◌∙◌, IsOk, OnOk, ap, arith, subst, sym}
use Rattle.std.proofs.lemmas.Bool.{false≢true}
use Rattle.lt_modes.specs.State.{SetState}
use Rattle.lt_core.specs.CoreData.{CoreData, HasMemory, waiting_here}
use Rattle.lt_node.specs.NodeData.{KeptData, kept_of}
use Rattle.lt_node.specs.Sets.{SetsData, core_in}
use Rattle.lt_node.proofs.NodeLemmas.{kept_one}
use Rattle.lt_node.proofs.StoredLemmas.{in_hand, in_places, now_here, now_other, same_core, same_count, same_then, sets_kept, stored_kept, touched_seen}
use Rattle.lt_node.proofs.sets.Sets.reserve.Goals as goal

pub returns-in_err-touch-clause-full : goal.returns-in_err-touch-clause-full
returns-in_err-touch-clause-full c = λ memory.
    absurd (false≢true (subst (λ r. IsOk r) c.in_err-touch.was (c.touch.ensures.full memory)))

pub place_of-place-requires-clause-inside : goal.place_of-place-requires-clause-inside
place_of-place-requires-clause-inside c =
    in_places c.self.inside.nodes c.self.inside.me c.self.inside.places.items c.self.inside.cores.items c.touch.new.self c.self.view_is c.args.set (omega (arith, c.requires.set, same_count c.args.self.now c.touch.new.self c.touch.ensures.same))

pub place_of-place-requires-clause-touched : goal.place_of-place-requires-clause-touched
place_of-place-requires-clause-touched c = touched_seen c.self.inside.nodes c.self.inside.me c.self.inside.places.items c.self.inside.cores.items c.touch.new.self c.self.view_is c.args.set c.in_ok-touch.ensures.touched

pub reserve-requires : goal.reserve-requires
reserve-requires c =
    let hand = (in_hand c.self.inside.nodes c.self.inside.me c.self.inside.first c.self.inside.places.items c.self.inside.cores.items c.self.inside.waiting.items c.touch.new.self c.args.set c.place_of-place.result c.index_mut.result.now c.self.invariant c.self.view_is
    (omega (arith, c.requires.set, same_count c.args.self.now c.touch.new.self c.touch.ensures.same)) c.place_of-place.ensures c.index_mut.ensures.value) in
    let states = ap (λ (k : KeptData). k.state) (ap kept_of hand.core_is ∙ same_core c.args.self.now c.touch.new.self c.args.set c.touch.ensures.same) in
    omega (arith, c.requires.few, ap (λ (s : SetState). waiting_here s) states)

pub invariant_of-self : goal.invariant_of-self
invariant_of-self c =
    let hand = (in_hand c.self.inside.nodes c.self.inside.me c.self.inside.first c.self.inside.places.items c.self.inside.cores.items c.self.inside.waiting.items c.touch.new.self c.args.set c.place_of-place.result c.index_mut.result.now c.self.invariant c.self.view_is
    (omega (arith, c.requires.set, same_count c.args.self.now c.touch.new.self c.touch.ensures.same)) c.place_of-place.ensures c.index_mut.ensures.value) in
    stored_kept c.self.inside.nodes c.self.inside.me c.self.inside.first c.self.inside.places.items c.self.inside.cores.items c.self.inside.waiting.items c.self.invariant c.touch.new.self c.self.view_is c.args.set c.place_of-place.result c.index_mut.result.now c.reserve.new.self hand (kept_one c.index_mut.result.now c.reserve.new.self c.reserve.ensures.state c.reserve.ensures.place)

pub returns-clause-same : goal.returns-clause-same
returns-clause-same c =
    let hand = (in_hand c.self.inside.nodes c.self.inside.me c.self.inside.first c.self.inside.places.items c.self.inside.cores.items c.self.inside.waiting.items c.touch.new.self c.args.set c.place_of-place.result c.index_mut.result.now c.self.invariant c.self.view_is
    (omega (arith, c.requires.set, same_count c.args.self.now c.touch.new.self c.touch.ensures.same)) c.place_of-place.ensures c.index_mut.ensures.value) in
    same_then c.args.self.now c.touch.new.self _ c.touch.ensures.same
    (sets_kept c.self.inside.nodes c.self.inside.me c.self.inside.first c.self.inside.places.items c.self.inside.cores.items c.self.inside.waiting.items c.self.invariant c.touch.new.self c.self.view_is c.args.set c.place_of-place.result c.index_mut.result.now c.reserve.new.self hand (kept_one c.index_mut.result.now c.reserve.new.self c.reserve.ensures.state c.reserve.ensures.place))

pub returns-clause-others : goal.returns-clause-others
returns-clause-others c = λ other differ.
    let hand = (in_hand c.self.inside.nodes c.self.inside.me c.self.inside.first c.self.inside.places.items c.self.inside.cores.items c.self.inside.waiting.items c.touch.new.self c.args.set c.place_of-place.result c.index_mut.result.now c.self.invariant c.self.view_is
    (omega (arith, c.requires.set, same_count c.args.self.now c.touch.new.self c.touch.ensures.same)) c.place_of-place.ensures c.index_mut.ensures.value) in
    now_other c.self.inside.nodes c.self.inside.me c.self.inside.first c.self.inside.places.items c.self.inside.cores.items c.self.inside.waiting.items c.self.invariant c.touch.new.self c.self.view_is c.args.set c.place_of-place.result c.index_mut.result.now c.reserve.new.self hand other differ
    ∙ c.touch.ensures.others other differ

pub returns-clause-room : goal.returns-clause-room
returns-clause-room c =
    let hand = (in_hand c.self.inside.nodes c.self.inside.me c.self.inside.first c.self.inside.places.items c.self.inside.cores.items c.self.inside.waiting.items c.touch.new.self c.args.set c.place_of-place.result c.index_mut.result.now c.self.invariant c.self.view_is
    (omega (arith, c.requires.set, same_count c.args.self.now c.touch.new.self c.touch.ensures.same)) c.place_of-place.ensures c.index_mut.ensures.value) in
    subst (λ (x : CoreData). OnOk c.reserve.result (HasMemory 0 x)) (sym (now_here c.self.inside.nodes c.self.inside.me c.self.inside.first c.self.inside.places.items c.self.inside.cores.items c.self.inside.waiting.items c.self.invariant c.touch.new.self c.self.view_is c.args.set c.place_of-place.result c.index_mut.result.now c.reserve.new.self hand)) c.reserve.ensures.room

pub returns-clause-full : goal.returns-clause-full
returns-clause-full c = λ memory.
    let hand = (in_hand c.self.inside.nodes c.self.inside.me c.self.inside.first c.self.inside.places.items c.self.inside.cores.items c.self.inside.waiting.items c.touch.new.self c.args.set c.place_of-place.result c.index_mut.result.now c.self.invariant c.self.view_is
    (omega (arith, c.requires.set, same_count c.args.self.now c.touch.new.self c.touch.ensures.same)) c.place_of-place.ensures c.index_mut.ensures.value) in
    let same = ap (λ (d : SetsData). core_in d c.args.set) (c.touch.ensures.had memory) in
    c.reserve.ensures.full (subst (λ (x : CoreData). HasMemory 0 x) (sym (hand.core_is ∙ same)) memory)

pub returns-in_err-touch-clause-mark : goal.returns-in_err-touch-clause-mark
returns-in_err-touch-clause-mark c = c.touch.ensures.mark

pub returns-clause-mark : goal.returns-clause-mark
returns-clause-mark c =
    let hand = (in_hand c.self.inside.nodes c.self.inside.me c.self.inside.first c.self.inside.places.items c.self.inside.cores.items c.self.inside.waiting.items c.touch.new.self c.args.set c.place_of-place.result c.index_mut.result.now c.self.invariant c.self.view_is
    (omega (arith, c.requires.set, same_count c.args.self.now c.touch.new.self c.touch.ensures.same)) c.place_of-place.ensures c.index_mut.ensures.value) in
    let now = now_here c.self.inside.nodes c.self.inside.me c.self.inside.first c.self.inside.places.items c.self.inside.cores.items c.self.inside.waiting.items c.self.invariant c.touch.new.self c.self.view_is c.args.set c.place_of-place.result c.index_mut.result.now c.reserve.new.self hand in
    omega (arith, c.touch.ensures.mark, c.reserve.ensures.kept.marks, ap (λ (x : CoreData). x.mark_room) now, ap (λ (x : CoreData). x.mark_room) hand.core_is)
