-- The rounds keep stations and callers those of the script.
use Rattle.lt_live_serve.proofs.Lasting.{serving_lasts}
use Rattle.lt_live_serve.proofs.live.submit_all.Goals as goal

pub complete_all-requires-clause-serving : goal.complete_all-requires-clause-serving
complete_all-requires-clause-serving g c κs within =
    let script = c.args.script.now in
    let stations = c.first_round.new.stations.items in
    let callers = c.first_round.new.callers.items in
    serving_lasts script stations c.rounds.new.stations.items callers c.rounds.new.callers.items
    (serving_lasts script c.in_ok-stations.stations.items stations c.in_ok-stations.callers.items callers c.in_ok-stations.ensures
    c.first_round.ensures.stations c.first_round.ensures.callers)
    c.rounds.ensures.stations c.rounds.ensures.callers
