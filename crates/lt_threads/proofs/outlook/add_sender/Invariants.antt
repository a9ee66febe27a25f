-- The loop over the nodes that were reached.
use Rattle.lt_threads.proofs.outlook.add_sender.Given as goal

abbrev pub decreases-loop-left : goal.decreases-loop-left
decreases-loop-left l = l.left
