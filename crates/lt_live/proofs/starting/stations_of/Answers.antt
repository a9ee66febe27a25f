-- Each runner got its station.
use Rattle.std.proofs.Common.{List, [], ◌∷◌, ◌++◌, length, subst, sym, ◌∙◌}
use Rattle.std.proofs.lemmas.Iterator.Adapters.{YieldsList-from_vec}
use Rattle.std.proofs.lemmas.Iterator.Consumers.{YieldsList-turn}
use Rattle.lt_live.specs.Stations.{StationData, AreSeatless}
use Rattle.lt_live.proofs.OpenedStations.{no_commands, one_more_station}
use Rattle.lt_live.proofs.starting.stations_of.Goals as goal

pub new-requires : goal.new-requires
new-requires c =
    let gives = c.into_iter-runner-iterator.ensures.into_iter_gives in
    let turn = YieldsList-turn (YieldsList-from_vec {s = c.into_iter-runner-iterator.result} c.args.runners.items gives.0 (gives.1 ∙ c.args.runners.ok.0))
    c.loop-runner.yielded _ c.loop-runner.yielded_by c.next.result c.next.new.self c.in-Some.runner c.in-Some.is c.next.ensures.steps in
    no_commands c.args.runners.items (length c.loop-runner.yielded) c.in-Some.runner c.requires turn.0 turn.1

pub loop-runner-preserved : goal.loop-runner-preserved
loop-runner-preserved c =
    subst (λ (stations : List StationData). AreSeatless (c.loop-runner.yielded ++ c.in-Some.runner ∷ []) stations) (sym c.in_ok-push.ensures.items)
    (one_more_station c.loop-runner.yielded c.loop-runner.stations.items c.in-Some.runner c.new.result c.loop-runner.invariant c.new.ensures)
