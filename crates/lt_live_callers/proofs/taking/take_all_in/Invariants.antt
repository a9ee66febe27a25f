-- The stations took in more commands, or made more moves.
use Rattle.lt_live_callers.specs.Taking.{OnlyTakes, all_room}
use Rattle.lt_live_callers.proofs.taking.take_all_in.Given as goal

abbrev pub invariant-loop : goal.invariant-loop
invariant-loop l = OnlyTakes l.script l.initial.stations.items l.initial.sessions.items l.stations.items l.sessions.items

abbrev pub decreases-loop : goal.decreases-loop
decreases-loop l = all_room l.stations.items
