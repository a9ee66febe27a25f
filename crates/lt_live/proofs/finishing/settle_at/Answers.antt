-- The session and its seat looked at their rings.
use Rattle.std.proofs.Common.{◌≡◌, arith, sym, subst, ◌∙◌}
use Rattle.std.proofs.lemmas.Option.{same_Some}
use Rattle.lt_live.specs.Stations.{StationData, IsStation}
use Rattle.lt_live.proofs.Settling.{session_found, home_found, home_inside, station_found, seated_there, settles_at, says_looked}
use Rattle.lt_live.proofs.OwnCommands.{keeps_own}
use Rattle.lt_live.proofs.finishing.settle_at.Goals as goal

pub index-requires-2 : goal.index-requires-2
index-requires-2 c =
    let stations = c.args.stations.now.items in
    let sessions = c.args.sessions.now.items in
    let s = c.index.result.now in
    let live = c.requires.live in
    let here = session_found sessions c.args.client s c.requires.inside c.index.ensures in
    let at = home_found live.0 stations sessions c.args.client c.from-home.result s live.1 here (c.from-home.ensures ∙ c.home_of.ensures) in
    let inside = home_inside live.0 stations sessions c.args.client c.from-home.result s live.1 here at in
    omega (arith, inside, c.args.stations.now.ok.0)

pub index_mut-requires : goal.index_mut-requires
index_mut-requires c =
    let stations = c.args.stations.now.items in
    let sessions = c.args.sessions.now.items in
    let s = c.index.result.now in
    let live = c.requires.live in
    let here = session_found sessions c.args.client s c.requires.inside c.index.ensures in
    let at = home_found live.0 stations sessions c.args.client c.from-home.result s live.1 here (c.from-home.ensures ∙ c.home_of.ensures) in
    let inside = home_inside live.0 stations sessions c.args.client c.from-home.result s live.1 here at in
    omega (arith, inside, c.args.stations.now.ok.0)

pub beside-requires : goal.beside-requires
beside-requires c =
    let stations = c.args.stations.now.items in
    let sessions = c.args.sessions.now.items in
    let client = c.args.client in
    let h = c.from-home.result in
    let s = c.index_mut-2.result.now in
    let d = c.index_mut.result.now in
    let live = c.requires.live in
    let first = session_found sessions client c.index.result.now c.requires.inside c.index.ensures in
    let here = session_found sessions client s c.requires.inside c.index_mut-2.ensures.value in
    let at = home_found live.0 stations sessions client h c.index.result.now live.1 first (c.from-home.ensures ∙ c.home_of.ensures) in
    let there = station_found stations h d (home_inside live.0 stations sessions client h s live.1 here at) c.index_mut.ensures.value in
    seated_there live.0 stations sessions client h s d live.1 here at there

pub returns-clause-settles : goal.returns-clause-settles
returns-clause-settles c = λ script live.
    let stations = c.args.stations.now.items in
    let sessions = c.args.sessions.now.items in
    let client = c.args.client in
    let h = c.from-home.result in
    let s = c.index_mut-2.result.now in
    let t = c.beside.new.session in
    let d = c.index_mut.result.now in
    let first = session_found sessions client c.index.result.now c.requires.inside c.index.ensures in
    let here = session_found sessions client s c.requires.inside c.index_mut-2.ensures.value in
    let at = home_found script stations sessions client h c.index.result.now live first (c.from-home.ensures ∙ c.home_of.ensures) in
    let there = station_found stations h d (home_inside script stations sessions client h s live here at) c.index_mut.ensures.value in
    settles_at script client h stations sessions d c.beside.new.self s t live here at there c.beside.ensures.runner c.beside.ensures.stay
    (says_looked d.runner.log.entries s t d.seats c.beside.new.self.seats c.beside.ensures.looks) c.beside.ensures.served

pub returns-clause-own : goal.returns-clause-own
returns-clause-own c = λ script live.
    let stations = c.args.stations.now.items in
    let sessions = c.args.sessions.now.items in
    let client = c.args.client in
    let h = c.from-home.result in
    let s = c.index_mut-2.result.now in
    let d = c.index_mut.result.now in
    let first = session_found sessions client c.index.result.now c.requires.inside c.index.ensures in
    let here = session_found sessions client s c.requires.inside c.index_mut-2.ensures.value in
    let at = home_found script stations sessions client h c.index.result.now live first (c.from-home.ensures ∙ c.home_of.ensures) in
    let there = station_found stations h d (home_inside script stations sessions client h s live here at) c.index_mut.ensures.value in
    let first_there = station_found stations h c.index-2.result.now (home_inside script stations sessions client h s live here at) c.index-2.ensures in
    let same : c.index-2.result.now ≡ d = same_Some c.index-2.result.now d (sym first_there ∙ there) in
    keeps_own script client h stations sessions d c.beside.new.self s c.beside.new.session live here at there
    (subst (λ (z : StationData). IsStation z.runner z.seats) same c.kept.ensures) c.beside.ensures.looks
