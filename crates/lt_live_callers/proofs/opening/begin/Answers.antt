-- Nobody has called yet.
use Rattle.std.proofs.Common.{ℕ, ◌≤◌, subst, ◌∙◌}
use Rattle.lt_live.specs.Stations.{IsOpen}
use Rattle.lt_live_callers.proofs.Made.{begun}
use Rattle.lt_live_callers.proofs.opening.begin.Goals as goal

pub returns-clause-opened : goal.returns-clause-opened
returns-clause-opened g c =
    let stations = c.in_ok-stations.stations.items in
    let sessions = c.in_ok-stations.sessions.items in
    let opened =
    subst (λ (n : ℕ). IsOpen c.args.script.now n c.places_for.result c.from-most.result stations sessions) c.from-moves.ensures c.in_ok-stations.ensures in (
      c.places_for.result,
      sessions,
      subst (λ (n : ℕ). IsOpen c.args.script.now c.args.limit c.places_for.result n stations sessions) (c.from-most.ensures ∙ c.equal_share-share.ensures.share) opened,
    )

pub returns-clause-serving : goal.returns-clause-serving
returns-clause-serving g c =
    let stations = c.in_ok-stations.stations.items in
    let sessions = c.in_ok-stations.sessions.items in
    let opened =
    subst (λ (n : ℕ). IsOpen c.args.script.now n c.places_for.result c.from-most.result stations sessions) c.from-moves.ensures c.in_ok-stations.ensures in
    let equal =
    subst (λ (n : ℕ). IsOpen c.args.script.now c.args.limit c.places_for.result n stations sessions) (c.from-most.ensures ∙ c.equal_share-share.ensures.share) opened in
    begun g.C.Caller.goes c.law_live_lasts.ensures.opened c.args.script.now c.args.limit c.places_for.result stations
    sessions c.args.callers.items c.in_ok-desks.desks.items c.requires.commands equal
    (subst (λ (n : ℕ). n ≤ c.places_for.result) c.equal_share-share.ensures.share c.places_for.ensures.roomy) c.in_ok-desks.ensures
