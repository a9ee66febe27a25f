-- Stations and callers went on, and each round has fewer commands left.
use Rattle.lt_live.specs.Live.{EachStation}
use Rattle.lt_live_serve.specs.Completing.{Calls, EachCaller, ServesOn, all_left}
use Rattle.lt_live_serve.proofs.rounds.rounds_of.Given as goal

abbrev pub invariant-loop-stations : goal.invariant-loop-stations
invariant-loop-stations g l = record {
  stations : EachStation ServesOn l.initial.stations l.stations;
  callers : EachCaller Calls l.initial.callers l.callers;
}

abbrev pub decreases-loop-stations : goal.decreases-loop-stations
decreases-loop-stations g l = all_left l.callers
