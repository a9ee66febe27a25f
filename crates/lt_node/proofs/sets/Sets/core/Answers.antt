use Rattle.std.proofs.Common.{◌∙◌, ◌-◌, ap, arith, sym}
use Rattle.lt_core.specs.CoreData.{CoreData}
use Rattle.lt_node.specs.Sets.{SetsData, core_by}
use Rattle.lt_node.proofs.StoredLemmas.{InHand, core_seen, in_hand, in_places, place_read}
use Rattle.lt_node.proofs.sets.Sets.core.Goals as goal

pub index-place-requires : goal.index-place-requires
index-place-requires c = omega (arith, c.self.inside.places.ok.0, in_places c.self.inside.nodes c.self.inside.me c.self.inside.places.items c.self.inside.cores.items c.args.self.now c.self.view_is c.args.set c.requires)

pub index-requires : goal.index-requires
index-requires c =
    let read = place_read c.self.inside.nodes c.self.inside.me c.self.inside.places.items c.self.inside.cores.items c.args.self.now c.self.view_is c.args.set c.index-place.result.now c.requires c.index-place.ensures in
    omega (arith, read, c.if-place-eq0.false, c.self.invariant.inside c.args.set, c.self.inside.cores.ok.0)

pub returns-then-place-eq0-clause-state : goal.returns-then-place-eq0-clause-state
returns-then-place-eq0-clause-state c =
    let read = place_read c.self.inside.nodes c.self.inside.me c.self.inside.places.items c.self.inside.cores.items c.args.self.now c.self.view_is c.args.set c.index-place.result.now c.requires c.index-place.ensures in
    c.self.invariant.first_is.1
    ∙ sym (ap (λ (x : CoreData). x.state) (core_seen c.self.inside.nodes c.self.inside.me c.self.inside.places.items c.self.inside.cores.items c.args.self.now c.self.view_is c.args.set
    ∙ ap (core_by c.self.inside.nodes c.self.inside.me c.self.inside.cores.items c.args.set) (read ∙ c.if-place-eq0.true)))

hand : (c : goal.After-index) → InHand c.self.inside.nodes c.self.inside.me c.self.inside.places.items c.self.inside.cores.items c.args.self.now c.args.set (c.index-place.result.now - 1) c.index.result.now
hand c =
    let read = place_read c.self.inside.nodes c.self.inside.me c.self.inside.places.items c.self.inside.cores.items c.args.self.now c.self.view_is c.args.set c.index-place.result.now c.requires c.index-place.ensures in
    in_hand c.self.inside.nodes c.self.inside.me c.self.inside.first c.self.inside.places.items c.self.inside.cores.items c.self.inside.waiting.items c.args.self.now c.args.set (c.index-place.result.now - 1) c.index.result.now c.self.invariant c.self.view_is c.requires
    (omega (arith, read, c.if-place-eq0.false)) c.index.ensures

pub returns-else-place-eq0-clause-state : goal.returns-else-place-eq0-clause-state
returns-else-place-eq0-clause-state c = ap (λ (x : CoreData). x.state) (hand c).core_is

pub returns-else-place-eq0-clause-node : goal.returns-else-place-eq0-clause-node
returns-else-place-eq0-clause-node c = (hand c).own.node ∙ ap (λ (n : SetsData). n.me) c.self.view_is
