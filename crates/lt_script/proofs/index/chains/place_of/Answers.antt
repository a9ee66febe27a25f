use Rattle.std.proofs.Common.{◌≡◌, ◌∙◌, ◌+◌, ◌-◌, ◌<◌, ℕ, List, Some, true, false, length, slice_get, slice_index, refl, sym, ap, subst, arith, bytes_eq, bit_and}
use Rattle.std.proofs.lemmas.Option.{slice_get_read}
use Rattle.lt_script.proofs.IndexLemmas.{IsSought, place_inside, sought_first, sought_next, sought_found, sought_none}
use Rattle.lt_script.proofs.index.chains.place_of.Goals as goal

pub bounds-lasts-spot : goal.bounds-lasts-spot
bounds-lasts-spot g c = c.spot.ensures.inside

pub bounds-items-place : goal.bounds-items-place
bounds-items-place g c = place_inside c.loop-link.link (length c.args.items.now) c.loop-link-test.true c.loop-link.invariant.within

pub bounds-befores-place : goal.bounds-befores-place
bounds-befores-place g c =
    subst (λ (n : ℕ). c.loop-link.link - 1 < n) (sym c.requires.index.count) (place_inside c.loop-link.link (length c.args.items.now) c.loop-link-test.true c.loop-link.invariant.within)

pub returns-then-eq-clause-inside : goal.returns-then-eq-clause-inside
returns-then-eq-clause-inside g c = place_inside c.loop-link.link (length c.args.items.now) c.loop-link-test.true c.loop-link.invariant.within

pub loop-link-init : goal.loop-link-init
loop-link-init g c =
    let name_of = g.T.Named.name_of in
    subst (λ (spot : ℕ). IsSought name_of c.args.items.now (length c.args.lasts.now) c.args.name.now (slice_index c.args.lasts.now spot)) (sym (c.spot.ensures.spot ∙ ap (λ (h : ℕ). bit_and h (length c.args.lasts.now - 1)) c.requires.hash))
    (sought_first name_of c.args.items.now c.args.lasts.now c.args.befores.now c.args.name.now c.requires.index)

pub returns-then-eq-clause-place : goal.returns-then-eq-clause-place
returns-then-eq-clause-place g c =
    let name_of = g.T.Named.name_of in
    let items = c.args.items.now in
    let place = c.loop-link.link - 1 in
    let x = c.index-items-place.result in
    let at : slice_get items place ≡ Some x = slice_get_read items (length items) place x refl (omega (arith, c.loop-link.invariant.within, c.loop-link-test.true)) c.index-items-place.is in
    let same : bytes_eq (name_of x) c.args.name.now ≡ true = ap (λ (n : List ℕ). bytes_eq n c.args.name.now) (sym c.name.ensures) ∙ sym c.eq.ensures ∙ c.if-eq.true in
    sym (sought_found name_of items c.args.lasts.now c.args.befores.now c.args.name.now place x c.requires.index at same)

pub loop-link-preserved : goal.loop-link-preserved
loop-link-preserved g c =
    let name_of = g.T.Named.name_of in
    let items = c.args.items.now in
    let spots = length c.args.lasts.now in
    let place = c.loop-link.link - 1 in
    let x = c.index-items-place.result in
    let at : slice_get items place ≡ Some x = slice_get_read items (length items) place x refl (omega (arith, c.loop-link.invariant.within, c.loop-link-test.true)) c.index-items-place.is in
    let other : bytes_eq (name_of x) c.args.name.now ≡ false = ap (λ (n : List ℕ). bytes_eq n c.args.name.now) (sym c.name.ensures) ∙ sym c.eq.ensures ∙ c.if-eq.false in
    let here : c.loop-link.link ≡ place + 1 = omega (arith, c.loop-link-test.true) in
    let sought = subst (IsSought name_of items spots c.args.name.now) here c.loop-link.invariant in
    sought_next name_of items c.args.lasts.now c.args.befores.now c.args.name.now place x c.requires.index sought at other

pub returns-clause-place : goal.returns-clause-place
returns-clause-place g c =
    let name_of = g.T.Named.name_of in
    let none : c.loop-link.link ≡ 0 = omega (arith, c.loop-link-test.false) in
    sym (sought_none name_of c.args.items.now (length c.args.lasts.now) c.args.name.now (subst (IsSought name_of c.args.items.now (length c.args.lasts.now) c.args.name.now) none c.loop-link.invariant))
