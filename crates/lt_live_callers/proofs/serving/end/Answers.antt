-- The sessions are those of the desks, and the stations took in all that these submitted.
use Rattle.std.proofs.Common.{List, sym, subst}
use Rattle.lt_live.specs.declared.ends.Session.{Session}
use Rattle.lt_live.specs.Live.{IsServedRun}
use Rattle.lt_live_callers.specs.Taking.{AreAsking, AreAllAppended}
use Rattle.lt_live_callers.proofs.Taken.{made_before, limits_served, all_served, equal_shares, served_same, all_same}
use Rattle.lt_live_callers.proofs.serving.end.Goals as goal

pub take_all_in-requires : goal.take_all_in-requires
take_all_in-requires g c =
    subst (λ (all : List Session). AreAsking c.args.bare.now c.args.stations.items all) (sym c.in_ok-callers.ensures.sessions) c.requires.asking

pub end_run-requires-clause-live : goal.end_run-requires-clause-live
end_run-requires-clause-live g c κs within = (c.args.bare.now, c.in_ok-take_all_in.ensures.takes.asking.live)

pub end_run-requires-clause-limits : goal.end_run-requires-clause-limits
end_run-requires-clause-limits g c κs within =
    limits_served c.args.limit c.args.stations.items c.take_all_in.new.stations.items c.in_ok-take_all_in.ensures.takes.serves c.requires.limits

pub end_run-requires-clause-all : goal.end_run-requires-clause-all
end_run-requires-clause-all g c κs within =
    all_served c.args.stations.items c.take_all_in.new.stations.items c.in_ok-take_all_in.ensures.takes.serves c.requires.all

pub end_run-requires-clause-shares : goal.end_run-requires-clause-shares
end_run-requires-clause-shares g c κs within =
    equal_shares c.args.bare.now c.take_all_in.new.stations.items c.take_all_in.new.sessions.items c.in_ok-take_all_in.ensures.takes.asking

pub returns-clause-ended : goal.returns-clause-ended
returns-clause-ended g c =
    let bare = c.args.bare.now in
    let script = c.in_ok-script.script in
    let run = c.in_ok-script.run'.entries in
    let sessions = c.in_ok-callers.sessions.items in
    let after = c.take_all_in.new.sessions.items in
    let took = c.in_ok-take_all_in.ensures in
    let made = c.in_ok-script.ensures in
    record {
      serves = subst (λ (all : List Session). IsServedRun bare all script run) c.in_ok-callers.ensures.sessions
          (served_same bare script run sessions after took.takes.says (made.served bare took.takes.asking.live));
      few_commands = made.few_commands;
      ends = made.ends;
      within = made.within;
      far = made.far;
      all = subst (λ (all : List Session). AreAllAppended script all) c.in_ok-callers.ensures.sessions
          (all_same script sessions after took.takes.says (made.all bare took.takes.asking.live took.taken));
      made = made_before c.args.stations.items c.take_all_in.new.stations.items script run took.takes.serves made.made;
      callers = sym c.in_ok-callers.ensures.callers;
    }
