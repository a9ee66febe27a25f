-- The session and its seat looked at their rings.
use Rattle.std.proofs.Common.{arith, ◌∙◌}
use Rattle.lt_live.proofs.Settling.{session_found, home_found, home_inside, station_found, seated_there}
use Rattle.lt_live_callers.proofs.Looked.{looks_at}
use Rattle.lt_live_callers.proofs.taking.look_at.Goals as goal

pub index_mut-requires : goal.index_mut-requires
index_mut-requires c =
    let script = c.args._script.now in
    let stations = c.args.stations.now.items in
    let sessions = c.args.sessions.now.items in
    let s = c.index.result.now in
    let live = c.requires.asking.live in
    let here = session_found sessions c.args.client s c.requires.inside c.index.ensures in
    let at = home_found script stations sessions c.args.client c.from-home.result s live here (c.from-home.ensures ∙ c.home_of.ensures) in
    let inside = home_inside script stations sessions c.args.client c.from-home.result s live here at in
    omega (arith, inside, c.args.stations.now.ok.0)

pub beside-requires : goal.beside-requires
beside-requires c =
    let script = c.args._script.now in
    let stations = c.args.stations.now.items in
    let sessions = c.args.sessions.now.items in
    let client = c.args.client in
    let h = c.from-home.result in
    let s = c.index_mut-2.result.now in
    let d = c.index_mut.result.now in
    let live = c.requires.asking.live in
    let first = session_found sessions client c.index.result.now c.requires.inside c.index.ensures in
    let here = session_found sessions client s c.requires.inside c.index_mut-2.ensures.value in
    let at = home_found script stations sessions client h c.index.result.now live first (c.from-home.ensures ∙ c.home_of.ensures) in
    let there = station_found stations h d (home_inside script stations sessions client h s live here at) c.index_mut.ensures.value in
    seated_there script stations sessions client h s d live here at there

pub returns : goal.returns
returns c =
    let script = c.args._script.now in
    let stations = c.args.stations.now.items in
    let sessions = c.args.sessions.now.items in
    let client = c.args.client in
    let h = c.from-home.result in
    let s = c.index_mut-2.result.now in
    let d = c.index_mut.result.now in
    let live = c.requires.asking.live in
    let first = session_found sessions client c.index.result.now c.requires.inside c.index.ensures in
    let here = session_found sessions client s c.requires.inside c.index_mut-2.ensures.value in
    let at = home_found script stations sessions client h c.index.result.now live first (c.from-home.ensures ∙ c.home_of.ensures) in
    let there = station_found stations h d (home_inside script stations sessions client h s live here at) c.index_mut.ensures.value in
    let seated = seated_there script stations sessions client h s d live here at there in
    looks_at script client h stations sessions d c.beside.new.self s c.beside.new.session c.requires.asking here at there
    c.beside.ensures.runner c.beside.ensures.stay seated c.beside.ensures.looks
