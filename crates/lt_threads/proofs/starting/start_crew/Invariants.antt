-- The loop over nodes.
use Rattle.lt_node.specs.Clients.{HaveFrom}
use Rattle.lt_threads.specs.Pushes.{Starting}
use Rattle.lt_threads.proofs.starting.start_crew.Given as goal

abbrev pub invariant-loop-node : goal.invariant-loop-node
invariant-loop-node l = record {
  starting : Starting l.script l.fn.capacity l.fn.limit l.node l.mails.items l.runners.items;
  left : HaveFrom l.script l.node l.commands;
}
