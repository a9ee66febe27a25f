-- The loop of rounds.
use Rattle.lt_runner.specs.Kept.{Grew}
use Rattle.lt_threads.specs.Meeting.{EachIs, IsCrew, room_of}
use Rattle.lt_threads.proofs.rounds.run_rounds.Given as goal

abbrev pub invariant-loop-back : goal.invariant-loop-back
invariant-loop-back g l = record {
  crew : IsCrew l.script l.runners.items;
  grew : EachIs Grew l.initial.runners.items l.runners.items;
}

abbrev pub decreases-loop-back : goal.decreases-loop-back
decreases-loop-back g l = room_of l.runners.items
