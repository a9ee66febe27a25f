-- Stations and sessions that go on stay those that ask.
use Rattle.std.proofs.Common.{◌≡◌, ℕ, List, refl, sym, subst, arith, ◌∙◌}
use mathlib.Core.List.{IsPrefix}
use Rattle.lt_modes.specs.Script.{ScriptData}
use Rattle.lt_spec.specs.NodeMove.{home}
use Rattle.lt_runner.specs.declared.parts.Parts.{Parts}
use Rattle.lt_runner.specs.declared.turning.Turned.{Turned}
use Rattle.lt_runner.specs.Kept.{HasAll}
use Rattle.lt_live.specs.declared.ends.Session.{Session}
use Rattle.lt_live.specs.Live.{GoesOn, StationGoesOn, EachStation, EachSession, SaysSame}
use Rattle.lt_live.specs.Stations.{StationData, StaySeated, StationTurns}
use Rattle.lt_live.specs.Words.{submitted, SameSession}
use Rattle.lt_live.proofs.LiveShares.{goes_itself, goes_join}
use Rattle.lt_live.proofs.SeatLists.{alike_self, alike_before, alike_join, alike_weaker}
use Rattle.lt_live.proofs.Settling.{live_lasts, session_itself, same_sessions, station_itself, station_same, turn_has_all}
use Rattle.lt_live_callers.specs.Taking.{NoneWaitsAt, GoesFurther, StationTakesOn, AreAsking, OnlyTakes}
use Rattle.lt_live_callers.proofs.Outboxes.{waits_turned}
use Rattle.lt_live_callers.proofs.Steps.{names_same, prefix_same, prefix_join}

-- runners

pub further_itself : (a : Parts) → GoesFurther a a
further_itself a = record {
  goes = goes_itself a;
  log = prefix_same a.log.entries a.log.entries refl;
  commands = prefix_same a.node.script.commands a.node.script.commands refl;
}

pub further_join : (a b c : Parts) → GoesFurther a b → GoesFurther b c → GoesFurther a c
further_join a b c first second = record {
  goes = goes_join a b c first.goes second.goes;
  log = prefix_join a.log.entries b.log.entries c.log.entries first.log second.log;
  commands = prefix_join a.node.script.commands b.node.script.commands c.node.script.commands first.commands second.commands;
}

-- a turn appends commands, and makes moves
pub turn_further : (turned : Turned) (a b : StationData) → StationTurns turned a.runner a.seats b.runner b.seats → GoesOn a.runner b.runner → GoesFurther a.runner b.runner
turn_further turned a b turns goes = record {
  goes = goes;
  log = subst (λ (p : Parts). IsPrefix p.log.entries b.runner.log.entries) turns.appends.runner turns.grew.log;
  commands = subst (λ (s : ScriptData). IsPrefix a.runner.node.script.commands s.commands) (sym turns.grew.same.script) turns.appends.commands;
}

-- stations

pub serves_itself : (a : StationData) → StationTakesOn a a
serves_itself a = record { goes = station_itself a; further = further_itself a.runner; has_all = λ had. had; waits = λ place none. none }

station_join : (a b c : StationData) → StationGoesOn a b → StationGoesOn b c → StationGoesOn a c
station_join a b c first second = record {
  runner = goes_join a.runner b.runner c.runner first.runner second.runner;
  seated = λ s seated. second.seated s (first.seated s seated);
}

pub serves_join : (a b c : StationData) → StationTakesOn a b → StationTakesOn b c → StationTakesOn a c
serves_join a b c first second = record {
  goes = station_join a b c first.goes second.goes;
  further = further_join a.runner b.runner c.runner first.further second.further;
  has_all = λ had. second.has_all (first.has_all had);
  waits = λ place none. second.waits place (first.waits place none);
}

pub serves_turned : (turned : Turned) (a b : StationData) → StationTurns turned a.runner a.seats b.runner b.seats → StationGoesOn a b → StationTakesOn a b
serves_turned turned a b turns goes = record {
  goes = goes;
  further = turn_further turned a b turns goes.runner;
  has_all = turn_has_all turned a.runner a.seats b.runner b.seats turns;
  waits = waits_turned b.runner.log.entries a.seats b.seats turns.each;
}

-- a station whose runner stays
pub serves_same : (a b : StationData) → b.runner ≡ a.runner → StaySeated a.seats b.seats → ((place : ℕ) → NoneWaitsAt place a.seats → NoneWaitsAt place b.seats) → StationTakesOn a b
serves_same a b same stay waits = record {
  goes = station_same a b same stay;
  further = subst (λ (p : Parts). GoesFurther a.runner p) (sym same) (further_itself a.runner);
  has_all = λ had. subst HasAll (sym same) had;
  waits = waits;
}

-- sessions

pub says_itself : (s : Session) → SaysSame s s
says_itself s = record { same = session_itself s; submitted = refl; polled = refl }

pub says_join : (a b c : Session) → SaysSame a b → SaysSame b c → SaysSame a c
says_join a b c first second = record {
  same = same_sessions a b c first.same second.same;
  submitted = second.submitted ∙ first.submitted;
  polled = second.polled ∙ first.polled;
}

-- whatever stations do, while nothing is submitted
pub asking_lasts : (script : ScriptData) (stations later : List StationData) (sessions after : List Session) → AreAsking script stations sessions
    → EachStation StationTakesOn stations later → EachSession SaysSame sessions after → AreAsking script later after
asking_lasts script stations later sessions after h serves says = record {
  live = live_lasts script stations later sessions after h.live goes (alike_weaker SaysSame SameSession (λ s t same. same.same) sessions after says);
  each = λ client t e.
      let (s, was, same) = alike_before SaysSame sessions after says client t e in
      let before = h.each client s was in
      let share = same.same.share in
      record {
        share = let least = before.share in omega (arith, share, least);
        names = names_same s t same.same same.submitted before.names;
        hears = λ y there.
            let (x, here, on) = alike_before StationTakesOn stations later serves (home script client) y there in
            subst (λ (k : ℕ). NoneWaitsAt k y.seats) (sym same.same.place) (on.waits s.place (before.hears x here));
      };
}
  where
    goes : EachStation StationGoesOn stations later
    goes = alike_weaker StationTakesOn StationGoesOn (λ x y on. on.goes) stations later serves

pub takes_none : (script : ScriptData) (stations : List StationData) (sessions : List Session) → AreAsking script stations sessions
    → OnlyTakes script stations sessions stations sessions
takes_none script stations sessions h = record {
  asking = h;
  serves = alike_self StationTakesOn serves_itself stations;
  says = alike_self SaysSame says_itself sessions;
}

pub takes_join : (script : ScriptData) (stations mid later : List StationData) (sessions between after : List Session)
    → OnlyTakes script stations sessions mid between → OnlyTakes script mid between later after → OnlyTakes script stations sessions later after
takes_join script stations mid later sessions between after first second = record {
  asking = second.asking;
  serves = alike_join StationTakesOn serves_join stations mid later first.serves second.serves;
  says = alike_join SaysSame says_join sessions between after first.says second.says;
}
