use Rattle.std.proofs.Common.{◌≡◌, ◌<◌, ◌==◌, ◌∙◌, ℕ, ap, arith, length, not, slice_index_or, sym}
use Rattle.std.proofs.lemmas.List.{get_or_default}
use Rattle.lt_lists.specs.Below.{any_below}
use Rattle.lt_lists.proofs.Searches.{any_below_same}
use Rattle.lt_modes.specs.Waiting.{waits}
use Rattle.lt_core.specs.CoreData.{CoreData}
use Rattle.lt_node.specs.Sets.{core_in, core_of}
use Rattle.lt_node.proofs.CountLemmas.{some_counted}
use Rattle.lt_node.proofs.StoredLemmas.{core_seen, count_seen}
use Rattle.lt_node.proofs.sets.Sets.waits.Goals as goal

pub returns-then-place-len : goal.returns-then-place-len
returns-then-place-len c =
    let counts = c.self.inside.waiting.items in
    let client = c.args.client in
    let inside : client < length counts = omega (arith, c.if-place-len.true, c.len.ensures, c.from-place.ensures, c.self.inside.waiting.ok.0) in
    let count : c.index.result.now ≡ slice_index_or counts client 0 =
    c.index.ensures ∙ ap (λ (k : ℕ). slice_index_or counts k c.index.result.now) c.from-place.ensures ∙ get_or_default counts client c.index.result.now 0 inside in
    ap (λ (k : ℕ). not (k == 0)) (count ∙ c.self.invariant.waiting client inside)
    ∙ some_counted (length c.self.inside.places.items) (λ s. waits (core_of c.self.inside.nodes c.self.inside.me c.self.inside.places.items c.self.inside.cores.items s).state client)
    ∙ any_below_same (length c.self.inside.places.items) (λ s. waits (core_of c.self.inside.nodes c.self.inside.me c.self.inside.places.items c.self.inside.cores.items s).state client) (λ s. waits (core_in c.args.self.now s).state client)
    (λ s below. ap (λ (x : CoreData). waits x.state client) (sym (core_seen c.self.inside.nodes c.self.inside.me c.self.inside.places.items c.self.inside.cores.items c.args.self.now c.self.view_is s)))
    ∙ ap (λ (k : ℕ). any_below k (λ s. waits (core_in c.args.self.now s).state client)) (count_seen c.self.inside.nodes c.self.inside.me c.self.inside.places.items c.self.inside.cores.items c.args.self.now c.self.view_is)
