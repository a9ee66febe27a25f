use Rattle.std.proofs.Common.{◌≡◌, length}
use Rattle.lt_modes.specs.Serving.{queue_of, serve}
use Rattle.lt_desk.specs.DeskData.{out_after}
use Rattle.lt_desk.specs.Picks.{picked, IsInQueue}
use Rattle.lt_core.specs.CoreData.{HasRoom}
use Rattle.lt_core.proofs.one_set.Core.serve.Given as goal

abbrev pub invariant-loop-k : goal.invariant-loop-k
invariant-loop-k l = record {
  node : l.self.node ≡ l.initial.self.node;
  set : l.self.set ≡ l.initial.self.set;
  state : (serve l.self.set l.stamp l.self.state).state ≡ (serve l.initial.self.set l.stamp l.initial.self.state).state;
  sent : out_after (serve l.self.set l.stamp l.self.state) l.out ≡ out_after (serve l.initial.self.set l.stamp l.initial.self.state) l.initial.out;
  room : HasRoom 0 l.stamp.clock l.self;
  next : l.next ≡ picked l.self.node l.self.state;
  within : IsInQueue (length (queue_of l.self.state)) l.next;
}

abbrev pub decreases-loop-k : goal.decreases-loop-k
decreases-loop-k l = length (queue_of l.self.state)
