-- The caller of this client and its seat look at their rings.
use Rattle.std.proofs.Common.{arith, ◌∙◌}
use Rattle.lt_live_serve.proofs.Looked.{looks_at}
use Rattle.lt_live_serve.proofs.Told.{home_within, at_home}
use Rattle.lt_live_serve.proofs.completing.look_at.Goals as goal

pub index_mut-requires : goal.index_mut-requires
index_mut-requires c =
    let inside =
    home_within c.args._script.now c.args.stations.now.items c.args.callers.now.items c.args.client c.from-home.result c.index.result.now c.requires.serving
    c.requires.inside c.index.ensures (c.from-home.ensures ∙ c.home.ensures) in
    omega (arith, inside, c.args.stations.now.ok.0)

pub look-requires : goal.look-requires
look-requires c =
    (at_home c.args._script.now c.args.stations.now.items c.args.callers.now.items c.args.client c.from-home.result c.index.result.now c.requires.serving
    c.requires.inside c.index.ensures (c.from-home.ensures ∙ c.home.ensures) c.index_mut-2.result.now c.index_mut.result.now
    c.index_mut-2.ensures.value c.index_mut.ensures.value).seated

pub returns : goal.returns
returns c =
    let both =
    at_home c.args._script.now c.args.stations.now.items c.args.callers.now.items c.args.client c.from-home.result c.index.result.now c.requires.serving
    c.requires.inside c.index.ensures (c.from-home.ensures ∙ c.home.ensures) c.index_mut-2.result.now c.index_mut.result.now
    c.index_mut-2.ensures.value c.index_mut.ensures.value in
    looks_at c.args._script.now c.args.client c.from-home.result c.args.stations.now.items c.args.callers.now.items c.index_mut.result.now c.look.new.station
    c.index_mut-2.result.now c.look.new.caller c.requires.serving both.found both.at both.there c.look.ensures.runner c.look.ensures.stay both.seated
    c.look.ensures.looks c.look.ensures.calls
