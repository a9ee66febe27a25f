use Rattle.lt_live_serve.proofs.Lasting.{station_turned}
use Rattle.lt_live_serve.proofs.rounds.turn_often.Goals as goal

pub loop-preserved : goal.loop-preserved
loop-preserved g c =
    station_turned c.turn.result c.args.station.now c.loop.station c.turn.new.self c.loop.invariant c.turn.ensures.turns c.turn.ensures.goes_on c.turn.ensures.seated
