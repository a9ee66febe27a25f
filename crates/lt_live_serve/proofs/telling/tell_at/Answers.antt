-- The caller of this client is told.
use Rattle.std.proofs.Common.{arith, ◌∙◌}
use Rattle.lt_live_serve.proofs.Told.{home_within, at_home, tells_at}
use Rattle.lt_live_serve.proofs.telling.tell_at.Goals as goal

pub index_mut-requires : goal.index_mut-requires
index_mut-requires c =
    let inside =
    home_within c.args._script.now c.args.stations.now.items c.args.callers.now.items c.args.client c.from-home.result c.index.result.now c.requires.serving
    c.requires.inside c.index.ensures (c.from-home.ensures ∙ c.home.ensures) in
    omega (arith, inside, c.args.stations.now.ok.0)

pub tell-requires : goal.tell-requires
tell-requires c =
    (at_home c.args._script.now c.args.stations.now.items c.args.callers.now.items c.args.client c.from-home.result c.index.result.now c.requires.serving
    c.requires.inside c.index.ensures (c.from-home.ensures ∙ c.home.ensures) c.index_mut-2.result.now c.index_mut.result.now
    c.index_mut-2.ensures.value c.index_mut.ensures.value).seated

pub returns : goal.returns
returns c =
    let both =
    at_home c.args._script.now c.args.stations.now.items c.args.callers.now.items c.args.client c.from-home.result c.index.result.now c.requires.serving
    c.requires.inside c.index.ensures (c.from-home.ensures ∙ c.home.ensures) c.index_mut-2.result.now c.index_mut.result.now
    c.index_mut-2.ensures.value c.index_mut.ensures.value in
    tells_at c.args._script.now c.args.client c.from-home.result c.args.stations.now.items c.args.callers.now.items c.index_mut.result.now c.tell.new.station
    c.index_mut-2.result.now c.tell.new.caller c.requires.serving both.found both.at both.there c.tell.ensures.hears c.in_ok-tell.ensures.all
