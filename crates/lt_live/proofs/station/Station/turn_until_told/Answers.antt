-- Turns one after the other.
use Rattle.std.proofs.Common.{Option, Some, None, IfNone, IfSome, arith, refl, subst, ◌∙◌}
use Rattle.lt_mail.proofs.TellingLemmas.{tells_join}
use Rattle.lt_live.specs.declared.obeying.Obeyed.{Obeyed}
use Rattle.lt_live.specs.Obeying.{GoesOnTurning, StopsTurning}
use Rattle.lt_live.proofs.LiveShares.{goes_itself, goes_join}
use Rattle.lt_live.proofs.Marking.{adds_join, adds_none, tells_nothing}
use Rattle.lt_live.proofs.UntilTold.{ends_in_turn, keeps_join, keeps_none, moves_more, runs_out, same_itself, same_session_join}
use Rattle.lt_live.proofs.station.Station.turn_until_told.Goals as goal

pub loop-turns-init : goal.loop-turns-init
loop-turns-init g c = record {
  few = omega arith;
  moves = refl;
  keeps = keeps_none c.args.session.now;
  polls = refl;
  none = λ some. absurd (omega (arith, some));
  sends = tells_nothing c.args.self.now.runner.mail;
  tells = adds_none c.args.told.now c.args.self.now.seats;
  same = same_itself c.args.session.now;
  goes_on = goes_itself c.args.self.now.runner;
  seated = λ s seated. seated;
}

pub loop-turns-preserved : goal.loop-turns-preserved
loop-turns-preserved g c =
    let before = c.loop-turns.invariant in
    let step = c.turn_and_poll-more.ensures in
    let more = subst (λ (o : Option Obeyed). IfNone o (GoesOnTurning c.loop-turns.session c.turn_and_poll-more.new.session c.loop-turns.self c.turn_and_poll-more.new.self)) c.in-None.is step.more in
    record {
      few = omega arith;
      moves = moves_more c.loop-turns.turns c.args.self.now c.loop-turns.self c.turn_and_poll-more.new.self before.moves more.turn;
      keeps = keeps_join c.args.session.now c.loop-turns.session c.turn_and_poll-more.new.session before.keeps more.keeps;
      polls = more.polls.polled ∙ before.polls;
      none = λ some. more.polls.none;
      sends = tells_join c.loop-turns.sent c.turn_and_poll-more.result.0 c.args.self.now.runner.mail c.loop-turns.self.runner.mail
          c.turn_and_poll-more.new.self.runner.mail before.sends step.sent;
      tells = adds_join c.args.told.now c.loop-turns.told c.turn_and_poll-more.new.told c.args.self.now.seats c.loop-turns.self.seats
          c.turn_and_poll-more.new.self.seats before.tells step.told;
      same = same_session_join c.args.session.now c.loop-turns.session c.turn_and_poll-more.new.session before.same step.same;
      goes_on = goes_join c.args.self.now.runner c.loop-turns.self.runner c.turn_and_poll-more.new.self.runner before.goes_on step.goes_on;
      seated = λ s seated. step.seated s (before.seated s seated);
    }

pub returns-in-Some-clause-turns : goal.returns-in-Some-clause-turns
returns-in-Some-clause-turns g c =
    let before = c.loop-turns.invariant in
    ends_in_turn c.loop-turns.turns c.in-Some.obeyed c.args.session.now c.loop-turns.session c.turn_and_poll-more.new.session c.args.self.now c.loop-turns.self
    c.turn_and_poll-more.new.self c.loop-turns-test.true before.moves before.keeps before.polls
    (subst (λ (o : Option Obeyed). IfSome o (λ (obeyed : Obeyed). StopsTurning obeyed c.loop-turns.session c.turn_and_poll-more.new.session c.loop-turns.self
    c.turn_and_poll-more.new.self)) c.in-Some.is c.turn_and_poll-more.ensures.end)

pub returns-in-Some-clause-sent : goal.returns-in-Some-clause-sent
returns-in-Some-clause-sent g c =
    tells_join c.loop-turns.sent c.turn_and_poll-more.result.0 c.args.self.now.runner.mail c.loop-turns.self.runner.mail
    c.turn_and_poll-more.new.self.runner.mail c.loop-turns.invariant.sends c.turn_and_poll-more.ensures.sent

pub returns-in-Some-clause-told : goal.returns-in-Some-clause-told
returns-in-Some-clause-told g c =
    adds_join c.args.told.now c.loop-turns.told c.turn_and_poll-more.new.told c.args.self.now.seats c.loop-turns.self.seats
    c.turn_and_poll-more.new.self.seats c.loop-turns.invariant.tells c.turn_and_poll-more.ensures.told

pub returns-in-Some-clause-same : goal.returns-in-Some-clause-same
returns-in-Some-clause-same g c =
    same_session_join c.args.session.now c.loop-turns.session c.turn_and_poll-more.new.session c.loop-turns.invariant.same c.turn_and_poll-more.ensures.same

pub returns-in-Some-clause-goes_on : goal.returns-in-Some-clause-goes_on
returns-in-Some-clause-goes_on g c =
    goes_join c.args.self.now.runner c.loop-turns.self.runner c.turn_and_poll-more.new.self.runner c.loop-turns.invariant.goes_on c.turn_and_poll-more.ensures.goes_on

pub returns-in-Some-clause-seated : goal.returns-in-Some-clause-seated
returns-in-Some-clause-seated g c = λ s seated. c.turn_and_poll-more.ensures.seated s (c.loop-turns.invariant.seated s seated)

pub returns-clause-turns : goal.returns-clause-turns
returns-clause-turns g c =
    let before = c.loop-turns.invariant in
    runs_out c.loop-turns.turns c.args.session.now c.loop-turns.session c.args.self.now c.loop-turns.self
    (omega (arith, before.few, c.loop-turns-test.false)) before.moves before.keeps before.polls (before.none (omega (arith, c.loop-turns-test.false)))

pub returns-clause-sent : goal.returns-clause-sent
returns-clause-sent g c = c.loop-turns.invariant.sends

pub returns-clause-told : goal.returns-clause-told
returns-clause-told g c = c.loop-turns.invariant.tells
