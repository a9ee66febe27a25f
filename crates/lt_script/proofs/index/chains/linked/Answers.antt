use Rattle.std.proofs.Common.{◌≡◌, ◌∙◌, ℕ, ◌+◌, List, Some, length, slice_get, slice_index, refl, sym, subst, arith}
use Rattle.std.proofs.lemmas.List.{length-set}
use Rattle.std.proofs.lemmas.Option.{slice_get_read}
use Rattle.lt_script.specs.Index.{spot_at, AreLinked}
use Rattle.lt_script.proofs.IndexLemmas.{none_linked, linked_step}
use Rattle.lt_script.proofs.index.chains.linked.Goals as goal

pub loop-place-init : goal.loop-place-init
loop-place-init g c =
    let lasts = c.args.lasts.now in
    let at : ℕ → ℕ = spot_at g.T.Named.name_of c.args.items.now (length lasts) in
    record {
      linked = subst (λ (l : List ℕ). AreLinked at 0 l c.args.befores.now) (sym c.requires.none) (none_linked at (length lasts) c.args.befores.now);
      spots = refl;
      count = refl;
    }

pub loop-place-preserved : goal.loop-place-preserved
loop-place-preserved g c =
    let items = c.args.items.now in
    let place = c.loop-place.place in
    let lasts = c.loop-place.lasts in
    let befores = c.loop-place.befores in
    let spot = c.spot-spot.result in
    let x = c.index-items-place.result in
    let so_far = c.loop-place.invariant in
    let there : slice_get items place ≡ Some x = slice_get_read items (length items) place x refl c.loop-place-test.true c.index-items-place.is in
    record {
      linked =
          linked_step g.T.Named.name_of items x place (length c.args.lasts.now) spot c.hash.result lasts befores c.name.result.now there
          (omega (arith, so_far.count, c.requires.same, c.loop-place-test.true)) c.name.ensures c.hash.ensures c.spot-spot.ensures.spot c.spot-spot.ensures.inside so_far.spots so_far.linked;
      spots = length-set lasts spot (place + 1) ∙ so_far.spots;
      count = length-set befores place (slice_index lasts spot) ∙ so_far.count;
    }

pub returns-clause-linked : goal.returns-clause-linked
returns-clause-linked g c =
    let items = c.args.items.now in
    let lasts = c.loop-place.lasts in
    let befores = c.loop-place.befores in
    let all : c.loop-place.place ≡ length items = omega (arith, c.loop-place-test.false, c.loop-place.auto.place-end) in
    subst (λ (n : ℕ). AreLinked (spot_at g.T.Named.name_of items n) (length items) lasts befores) (sym c.loop-place.invariant.spots)
    (subst (λ (n : ℕ). AreLinked (spot_at g.T.Named.name_of items (length c.args.lasts.now)) n lasts befores) all c.loop-place.invariant.linked)
