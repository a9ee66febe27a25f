use Rattle.std.proofs.Common.{ℕ, List, ◌≤◌, subst, ap, ◌∙◌}
use Rattle.lt_modes.specs.Script.{ScriptData}
use Rattle.lt_live_serve.specs.declared.limits.TheConstants.{MOVES}
use Rattle.lt_live.specs.Stations.{StationData, IsOpen, equal_share}
use Rattle.lt_live_serve.specs.Completing.{AreStationsKept}
use Rattle.lt_live_serve.proofs.Beside.{are_new, first_serving}
use Rattle.lt_live_serve.proofs.opening.begin.Goals as goal

pub callers_of-requires-clause-new : goal.callers_of-requires-clause-new
callers_of-requires-clause-new c =
    let bare = c.in_ok-bare.bare in
    let places = c.places_for.result in
    let stations = c.in_ok-stations.stations.items in
    let sessions = c.in_ok-stations.sessions.items in
    let moves = subst (λ (n : ℕ). IsOpen bare n places c.from-most.result stations sessions) c.from-moves.ensures c.in_ok-stations.ensures in
    let share = subst (λ (n : ℕ). IsOpen bare MOVES places n stations sessions) (c.from-most.ensures ∙ c.equal_share-share.ensures.share) moves in
    are_new c.args.script.now places stations sessions
    (subst (λ (n : ℕ). n ≤ places) (c.equal_share-share.ensures.share ∙ ap equal_share c.in_ok-bare.ensures) c.places_for.ensures.roomy) c.requires.shared
    (subst (λ (s : ScriptData). IsOpen s MOVES places (equal_share s) stations sessions) c.in_ok-bare.ensures share)

pub returns : goal.returns
returns c =
    let bare = c.in_ok-bare.bare in
    let places = c.places_for.result in
    let stations = c.in_ok-stations.stations.items in
    let sessions = c.in_ok-stations.sessions.items in
    first_serving c.args.script.now bare stations sessions c.in_ok-callers.callers.items places c.from-most.result c.in_ok-bare.ensures
    (subst (λ (n : ℕ). IsOpen bare n places c.from-most.result stations sessions) c.from-moves.ensures c.in_ok-stations.ensures) c.in_ok-callers.ensures
    (subst (λ (stations : List StationData). AreStationsKept stations) c.deref.ensures.value c.are_kept.ensures)
