-- All were served so far, and go on.
use Rattle.std.proofs.Common.{List, length, subst}
use Rattle.lt_live.specs.Stations.{StationData}
use Rattle.lt_live.specs.Served.{HaveKeptRunners}
use Rattle.lt_live.proofs.Moments.{linked_now, stations_now, sessions_now, live_now, served_so_far, whole_so_far}
use Rattle.lt_live.proofs.serving.served.Goals as goal

pub meet_all-requires : goal.meet_all-requires
meet_all-requires c =
    linked_now c.args.stations.now.items c.settle_all.new.stations.items c.settle_all.new.stations.items c.args.sessions.now.items c.settle_all.new.sessions.items
    c.requires c.settle_all.ensures.settled

pub returns : goal.returns
returns c =
    let stations = c.args.stations.now.items in
    let later = c.settle_all.new.stations.items in
    let new = c.meet_all.new.stations.items in
    let sessions = c.args.sessions.now.items in
    let after = c.settle_all.new.sessions.items in
    let met = c.meet_all.ensures.met in
    let kept = subst (λ (xs : List StationData). HaveKeptRunners (length xs) xs) c.deref.ensures.value c.runners_kept.ensures in
    record {
      served = served_so_far stations later new sessions after c.requires c.settle_all.ensures.settled c.settle_all.ensures.own met kept;
      whole = whole_so_far stations later new sessions after c.requires c.settle_all.ensures.settled c.settle_all.ensures.own met kept;
      live = live_now stations later new sessions after c.requires c.settle_all.ensures.settled met;
      stations = stations_now stations later new sessions after c.requires c.settle_all.ensures.settled met;
      sessions = sessions_now stations later new sessions after c.requires c.settle_all.ensures.settled;
    }
