-- The session that is found at the place.
use Rattle.lt_live.proofs.OpensHere.{seated_found, settles_found}
use Rattle.lt_live.proofs.serving_one.settle_one.Goals as goal

pub beside-requires : goal.beside-requires
beside-requires c = seated_found c.args.place c.args.sessions.now _ c.args.station.now.seats c.requires.inside c.requires.seated

pub returns : goal.returns
returns c =
    settles_found c.args.place c.args.station.now c.beside.new.self c.args.sessions.now _ c.beside.new.session c.requires.inside c.requires.seated
    c.beside.ensures.looks c.beside.ensures.seated c.beside.ensures.stay c.beside.ensures.served c.beside.ensures.runner
