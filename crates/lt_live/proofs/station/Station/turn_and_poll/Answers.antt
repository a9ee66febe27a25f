-- A turn, and what was polled then.
use Rattle.std.proofs.Common.{subst}
use Rattle.lt_runner.specs.declared.turning.Turned.{Turned}
use Rattle.lt_live.specs.Obeying.{MakesTurn}
use Rattle.lt_live.proofs.station.Station.turn_and_poll.Goals as goal

pub returns-in-Some-clause-end : goal.returns-in-Some-clause-end
returns-in-Some-clause-end g c = record {
  keeps = record { submitted = c.poll.ensures.commands.0; left = c.poll.ensures.commands.1 };
  turned = c.turn_telling-report.result.turned;
  turn = c.turn_telling-report.ensures.turns;
  stops = c.in-Some.ensures.some.0;
}

pub returns-in-Moved-clause-more : goal.returns-in-Moved-clause-more
returns-in-Moved-clause-more g c = record {
  keeps = record { submitted = c.poll.ensures.commands.0; left = c.poll.ensures.commands.1 };
  turn = subst (λ (turned : Turned). MakesTurn turned c.args.self.now c.turn_telling-report.new.self) c.in-Moved.is c.turn_telling-report.ensures.turns;
  polls = record { polled = c.in_default.ensures.none.0; none = c.in_default.ensures.none.2 };
}

pub returns-in-Quiet-clause-end : goal.returns-in-Quiet-clause-end
returns-in-Quiet-clause-end g c = record {
  keeps = record { submitted = c.poll.ensures.commands.0; left = c.poll.ensures.commands.1 };
  turned = c.turn_telling-report.result.turned;
  turn = c.turn_telling-report.ensures.turns;
  stops = (record { polled = c.in_default.ensures.none.0; none = c.in_default.ensures.none.2 }, c.in-Quiet.is);
}

pub returns-in-Full-clause-end : goal.returns-in-Full-clause-end
returns-in-Full-clause-end g c = record {
  keeps = record { submitted = c.poll.ensures.commands.0; left = c.poll.ensures.commands.1 };
  turned = c.turn_telling-report.result.turned;
  turn = c.turn_telling-report.ensures.turns;
  stops = (record { polled = c.in_default.ensures.none.0; none = c.in_default.ensures.none.2 }, c.in-Full.is);
}

pub returns-in-NoMemory-clause-end : goal.returns-in-NoMemory-clause-end
returns-in-NoMemory-clause-end g c = record {
  keeps = record { submitted = c.poll.ensures.commands.0; left = c.poll.ensures.commands.1 };
  turned = c.turn_telling-report.result.turned;
  turn = c.turn_telling-report.ensures.turns;
  stops = (record { polled = c.in_default.ensures.none.0; none = c.in_default.ensures.none.2 }, c.in-NoMemory.is);
}
