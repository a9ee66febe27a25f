-- The stations are those of the script, and lack fewer commands each time.
use Rattle.lt_live_serve.specs.Completing.{AllSubmitted, all_lack, AreServing}
use Rattle.lt_live_serve.proofs.completing.complete_all.Given as goal

abbrev pub invariant-loop : goal.invariant-loop
invariant-loop g l = record {
  serving : AreServing l.script l.stations.items l.callers.items;
  submitted : AllSubmitted l.callers.items;
}

abbrev pub decreases-loop : goal.decreases-loop
decreases-loop g l = all_lack l.script l.stations.items
