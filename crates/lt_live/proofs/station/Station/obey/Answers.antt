-- The command is submitted, and then turns are made.
use Rattle.std.proofs.Common.{◌<◌, arith, refl, sym}
use Rattle.lt_live.proofs.LiveShares.{goes_itself}
use Rattle.lt_live.proofs.Marking.{adds_none, tells_nothing}
use Rattle.lt_live.proofs.UntilTold.{not_refused, obeys_turns, same_session_join}
use Rattle.lt_live.proofs.station.Station.obey.Goals as goal

pub returns-in-Ok-clause-obeys : goal.returns-in-Ok-clause-obeys
returns-in-Ok-clause-obeys g c =
    obeys_turns c.turn_until_told.result.obeyed c.args.command c.args.session.now c.submit.new.self c.turn_until_told.new.session c.args.self.now
    c.turn_until_told.new.self
    (record {
      submitted = c.in-Ok.ensures.ok.0;
      left = c.in-Ok.ensures.ok.1;
      polled = c.submit.ensures.replies.0;
      known = c.submit.ensures.replies.1;
    })
    c.turn_until_told.ensures.turns

pub returns-in-Ok-clause-place : goal.returns-in-Ok-clause-place
returns-in-Ok-clause-place g c = λ some.
    not_refused c.turn_until_told.result.obeyed c.submit.new.self c.turn_until_told.new.session c.args.self.now c.turn_until_told.new.self
    c.turn_until_told.ensures.turns

pub returns-in-Ok-clause-same : goal.returns-in-Ok-clause-same
returns-in-Ok-clause-same g c =
    same_session_join c.args.session.now c.submit.new.self c.turn_until_told.new.session c.submit.ensures.same c.turn_until_told.ensures.same

pub returns-in-Err-clause-obeys : goal.returns-in-Err-clause-obeys
returns-in-Err-clause-obeys g c = record {
  full = c.in-Err.ensures.no_place;
  keeps = record { submitted = c.in-Err.ensures.back.1; left = c.in-Err.ensures.back.2 };
  polled = c.submit.ensures.replies.0;
  known = c.submit.ensures.replies.1;
  station = refl;
}

pub returns-in-Err-clause-sent : goal.returns-in-Err-clause-sent
returns-in-Err-clause-sent g c = tells_nothing c.args.self.now.runner.mail

pub returns-in-Err-clause-told : goal.returns-in-Err-clause-told
returns-in-Err-clause-told g c = adds_none c.args.told.now c.args.self.now.seats

pub returns-in-Err-clause-goes_on : goal.returns-in-Err-clause-goes_on
returns-in-Err-clause-goes_on g c = goes_itself c.args.self.now.runner

pub returns-in-Err-clause-seated : goal.returns-in-Err-clause-seated
returns-in-Err-clause-seated g c = λ s seated. seated
