-- The session and its seat looked at their rings before and after the poll.
use Rattle.std.proofs.Common.{sym, arith, ◌∙◌}
use Rattle.std.proofs.lemmas.Result.{IfOk-weaker}
use Rattle.lt_live.proofs.Telling.{session_stays}
use Rattle.lt_live.proofs.Settling.{same_sessions}
use Rattle.lt_live_serve.proofs.Outboxes.{waits_looked}
use Rattle.lt_live_serve.proofs.Told.{heard_all, heard_few}
use Rattle.lt_live_serve.proofs.telling.tell_one.Goals as goal

pub beside-requires-2 : goal.beside-requires-2
beside-requires-2 c =
    session_stays c.beside.new.session c.hear-more.new.self.session c.beside.new.self.seats c.hear-more.ensures.calls.session c.beside.ensures.seated

pub returns-clause-hears : goal.returns-clause-hears
returns-clause-hears c = record {
  runner = c.beside-2.ensures.runner ∙ c.beside.ensures.runner;
  stay = λ s h. c.beside-2.ensures.stay s (c.beside.ensures.stay s h);
  waits = λ none.
      waits_looked c.beside.new.self.runner.log.entries c.hear-more.new.self.session c.beside-2.new.session c.beside.new.self.seats c.beside-2.new.self.seats
      c.beside-2.ensures.looks
      (waits_looked c.args.station.now.runner.log.entries c.args.caller.now.session c.beside.new.session c.args.station.now.seats c.beside.new.self.seats
      c.beside.ensures.looks none);
  seated = c.beside-2.ensures.seated;
  calls = record {
    session = same_sessions c.args.caller.now.session c.beside.new.session c.beside-2.new.session c.beside.ensures.looks.looks.session
        (same_sessions c.beside.new.session c.hear-more.new.self.session c.beside-2.new.session c.hear-more.ensures.calls.session
        c.beside-2.ensures.looks.looks.session);
    commands = c.hear-more.ensures.calls.commands;
    left = c.hear-more.ensures.calls.left;
  };
}

pub returns-clause-all : goal.returns-clause-all
returns-clause-all c =
    IfOk-weaker c.hear-more.result _ _
    (λ more told e.
    (told e).0
    ∙ sym c.args.caller.now.hears
    ∙ sym c.beside.ensures.looks.looks.polled
    ∙ heard_all c.args.station.now.runner c.args.caller.now.session c.beside.new.session c.args.station.now.seats c.beside.new.self.seats
    c.kept.ensures c.requires c.beside.ensures.looks (told e).1)
    c.hear-more.ensures.none

pub returns-clause-more : goal.returns-clause-more
returns-clause-more c = IfOk-weaker c.hear-more.result _ _ (λ more told e. let one = told e in omega (arith, one)) c.hear-more.ensures.more

pub returns-clause-few : goal.returns-clause-few
returns-clause-few c =
    heard_few c.beside.new.self.runner c.args.station.now.runner c.hear-more.new.self.session.client c.args.caller.now.session.client
    c.beside-2.new.session c.hear-more.new.self.heard.items c.beside-2.ensures.served c.beside.ensures.runner
    (c.hear-more.ensures.calls.session.client ∙ c.beside.ensures.looks.looks.session.client)
    (c.beside-2.ensures.looks.looks.polled ∙ c.hear-more.new.self.hears)
