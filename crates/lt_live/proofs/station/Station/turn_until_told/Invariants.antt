-- The loop over turns.
use Rattle.std.proofs.Common.{◌≡◌, ◌<◌, ◌≤◌, ◌-◌, []}
use Rattle.lt_mail.specs.Telling.{TellsGiven}
use Rattle.lt_live.specs.declared.obeying.TheConstants.{MOST_TURNS}
use Rattle.lt_live.specs.Live.{GoesOn}
use Rattle.lt_live.specs.Obeying.{MakesMoves, KeepsCommands}
use Rattle.lt_live.specs.Stations.{StaySeated}
use Rattle.lt_live.specs.Told.{AddsClients}
use Rattle.lt_live.specs.Words.{polled, known_replies, SameSession}
use Rattle.lt_live.proofs.station.Station.turn_until_told.Given as goal

abbrev pub invariant-loop-turns : goal.invariant-loop-turns
invariant-loop-turns g l = record {
  few : l.turns ≤ MOST_TURNS;
  moves : MakesMoves l.turns l.initial.self l.self;
  keeps : KeepsCommands l.initial.session l.session;
  polls : polled l.session ≡ polled l.initial.session;
  none : 0 < l.turns → known_replies l.session ≡ [];
  sends : TellsGiven l.sent l.initial.self.runner.mail l.self.runner.mail;
  tells : AddsClients l.initial.told l.told l.initial.self.seats l.self.seats;
  same : SameSession l.initial.session l.session;
  goes_on : GoesOn l.initial.self.runner l.self.runner;
  seated : StaySeated l.initial.self.seats l.self.seats;
}

abbrev pub decreases-loop-turns : goal.decreases-loop-turns
decreases-loop-turns g l = MOST_TURNS - l.turns
