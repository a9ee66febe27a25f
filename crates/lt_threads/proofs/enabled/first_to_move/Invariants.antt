-- The loop over the nodes.
use Rattle.lt_threads.specs.Meeting.{NoneShows}
use Rattle.lt_threads.proofs.enabled.first_to_move.Given as goal

abbrev pub invariant-loop-node : goal.invariant-loop-node
invariant-loop-node l = NoneShows l.node l.fn.runners
