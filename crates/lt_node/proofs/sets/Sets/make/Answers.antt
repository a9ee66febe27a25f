use Rattle.std.proofs.Common.{◌≡◌, ◌++◌, ◌∙◌, List, [], ◌∷◌, ap, arith, length-set, slice_index_or, sym}
use Rattle.lt_core.specs.CoreData.{CoreData}
use Rattle.lt_node.specs.Sets.{SetsData, core_by}
use Rattle.lt_node.proofs.SetsLemmas.{core_is_of, made_kept, made_other, made_touched, stored_more}
use Rattle.lt_node.proofs.StoredLemmas.{core_seen, in_places, none_with_room, place_read, same_sets}
use Rattle.lt_node.proofs.sets.Sets.make.Goals as goal

pub index_mut-requires : goal.index_mut-requires
index_mut-requires c = omega (arith, c.self.inside.places.ok.0, in_places c.self.inside.nodes c.self.inside.me c.self.inside.places.items c.self.inside.cores.items c.args.self.now c.self.view_is c.args.set c.requires.set)

pub invariant_of-self-2 : goal.invariant_of-self-2
invariant_of-self-2 c =
    stored_more c.self.inside.nodes c.self.inside.me c.self.inside.first c.self.inside.places.items c.self.inside.cores.items c.self.inside.waiting.items c.self.invariant c.args.set c.len.result c.in_ok-core.core c.push_reserved.new.self.items
    (omega (arith, ap (λ (d : SetsData). slice_index_or d.places c.args.set 0) c.self.view_is, c.requires.untouched))
    (in_places c.self.inside.nodes c.self.inside.me c.self.inside.places.items c.self.inside.cores.items c.args.self.now c.self.view_is c.args.set c.requires.set) (c.push_reserved.ensures.items ∙ ap (λ (l : List CoreData). l ++ c.in_ok-core.core ∷ []) c.reserve.ensures.items) (c.len.ensures ∙ c.push_reserved.new.self.ok.0)
    (record { node = c.in_ok-core.ensures.place.0; set = c.in_ok-core.ensures.place.1 }) c.in_ok-core.ensures.state

pub returns-clause-same : goal.returns-clause-same
returns-clause-same c =
    same_sets c.self.inside.nodes c.self.inside.me c.self.inside.places.items c.self.inside.cores.items c.args.self.now c.self.view_is _ c.push_reserved.new.self.items (length-set c.self.inside.places.items c.args.set c.len.result)
    (made_kept c.self.inside.nodes c.self.inside.me c.self.inside.first c.self.inside.places.items c.self.inside.cores.items c.self.inside.waiting.items c.self.invariant c.args.set c.len.result c.in_ok-core.core c.push_reserved.new.self.items
    (omega (arith, ap (λ (d : SetsData). slice_index_or d.places c.args.set 0) c.self.view_is, c.requires.untouched))
    (in_places c.self.inside.nodes c.self.inside.me c.self.inside.places.items c.self.inside.cores.items c.args.self.now c.self.view_is c.args.set c.requires.set) (c.push_reserved.ensures.items ∙ ap (λ (l : List CoreData). l ++ c.in_ok-core.core ∷ []) c.reserve.ensures.items) (c.len.ensures ∙ c.push_reserved.new.self.ok.0)
    (record { node = c.in_ok-core.ensures.place.0; set = c.in_ok-core.ensures.place.1 }) c.in_ok-core.ensures.state)

pub returns-clause-others : goal.returns-clause-others
returns-clause-others c = λ other differ.
    core_is_of c.self.inside.nodes c.self.inside.me _ c.push_reserved.new.self.items other
    ∙ made_other c.self.inside.nodes c.self.inside.me c.self.inside.first c.self.inside.places.items c.self.inside.cores.items c.self.inside.waiting.items c.self.invariant c.args.set c.len.result c.in_ok-core.core c.push_reserved.new.self.items
    (omega (arith, ap (λ (d : SetsData). slice_index_or d.places c.args.set 0) c.self.view_is, c.requires.untouched))
    (in_places c.self.inside.nodes c.self.inside.me c.self.inside.places.items c.self.inside.cores.items c.args.self.now c.self.view_is c.args.set c.requires.set) (c.push_reserved.ensures.items ∙ ap (λ (l : List CoreData). l ++ c.in_ok-core.core ∷ []) c.reserve.ensures.items) (c.len.ensures ∙ c.push_reserved.new.self.ok.0)
    (record { node = c.in_ok-core.ensures.place.0; set = c.in_ok-core.ensures.place.1 }) c.in_ok-core.ensures.state other differ
    ∙ sym (core_seen c.self.inside.nodes c.self.inside.me c.self.inside.places.items c.self.inside.cores.items c.args.self.now c.self.view_is other)

pub returns-clause-touched : goal.returns-clause-touched
returns-clause-touched c =
    made_touched c.self.inside.nodes c.self.inside.me c.self.inside.first c.self.inside.places.items c.self.inside.cores.items c.self.inside.waiting.items c.self.invariant c.args.set c.len.result c.in_ok-core.core c.push_reserved.new.self.items
    (omega (arith, ap (λ (d : SetsData). slice_index_or d.places c.args.set 0) c.self.view_is, c.requires.untouched))
    (in_places c.self.inside.nodes c.self.inside.me c.self.inside.places.items c.self.inside.cores.items c.args.self.now c.self.view_is c.args.set c.requires.set) (c.push_reserved.ensures.items ∙ ap (λ (l : List CoreData). l ++ c.in_ok-core.core ∷ []) c.reserve.ensures.items) (c.len.ensures ∙ c.push_reserved.new.self.ok.0)
    (record { node = c.in_ok-core.ensures.place.0; set = c.in_ok-core.ensures.place.1 }) c.in_ok-core.ensures.state

pub returns-clause-mark : goal.returns-clause-mark
returns-clause-mark c =
    let none : slice_index_or c.self.inside.places.items c.args.set 0 ≡ 0 = omega (arith, ap (λ (d : SetsData). slice_index_or d.places c.args.set 0) c.self.view_is, c.requires.untouched) in
    let seen = core_seen c.self.inside.nodes c.self.inside.me c.self.inside.places.items c.self.inside.cores.items c.args.self.now c.self.view_is c.args.set
    ∙ ap (core_by c.self.inside.nodes c.self.inside.me c.self.inside.cores.items c.args.set) none in
    omega (arith, ap (λ (x : CoreData). x.mark_room) seen)
