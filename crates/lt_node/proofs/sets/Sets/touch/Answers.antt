use Rattle.std.proofs.Common.{◌∙◌, ap, arith, slice_index_or}
use Rattle.lt_node.specs.Sets.{SetsData}
use Rattle.lt_node.proofs.StoredLemmas.{in_places, none_with_room, place_read}
use Rattle.lt_node.proofs.sets.Sets.touch.Goals as goal

pub index-requires : goal.index-requires
index-requires c = omega (arith, c.self.inside.places.ok.0, in_places c.self.inside.nodes c.self.inside.me c.self.inside.places.items c.self.inside.cores.items c.args.self.now c.self.view_is c.args.set c.requires)

pub returns-then-index-ne0-clause-touched : goal.returns-then-index-ne0-clause-touched
returns-then-index-ne0-clause-touched c =
    let read = place_read c.self.inside.nodes c.self.inside.me c.self.inside.places.items c.self.inside.cores.items c.args.self.now c.self.view_is c.args.set c.index.result.now c.requires c.index.ensures in
    omega (arith, c.if-index-ne0.true, read, ap (λ (d : SetsData). slice_index_or d.places c.args.set 0) c.self.view_is)

pub make-requires-clause-untouched : goal.make-requires-clause-untouched
make-requires-clause-untouched c = omega (arith, ap (λ (d : SetsData). slice_index_or d.places c.args.set 0) c.self.view_is, place_read c.self.inside.nodes c.self.inside.me c.self.inside.places.items c.self.inside.cores.items c.args.self.now c.self.view_is c.args.set c.index.result.now c.requires c.index.ensures, c.if-index-ne0.false)

pub returns-clause-full : goal.returns-clause-full
returns-clause-full c = λ memory. absurd (none_with_room c.self.inside.nodes c.self.inside.me c.self.inside.places.items c.self.inside.cores.items c.args.self.now c.self.view_is c.args.set (place_read c.self.inside.nodes c.self.inside.me c.self.inside.places.items c.self.inside.cores.items c.args.self.now c.self.view_is c.args.set c.index.result.now c.requires c.index.ensures ∙ c.if-index-ne0.false) memory)

pub returns-clause-had : goal.returns-clause-had
returns-clause-had c = λ memory. absurd (none_with_room c.self.inside.nodes c.self.inside.me c.self.inside.places.items c.self.inside.cores.items c.args.self.now c.self.view_is c.args.set (place_read c.self.inside.nodes c.self.inside.me c.self.inside.places.items c.self.inside.cores.items c.args.self.now c.self.view_is c.args.set c.index.result.now c.requires c.index.ensures ∙ c.if-index-ne0.false) memory)
