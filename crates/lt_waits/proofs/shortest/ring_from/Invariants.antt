use Rattle.lt_waits.specs.Serves.{graph_of}
use Rattle.lt_waits.proofs.StepRings.{IsWalk}
use Rattle.lt_waits.proofs.shortest.ring_from.Given as goal

abbrev pub invariant-loop-step : goal.invariant-loop-step
invariant-loop-step l = IsWalk l.waiters.clients (graph_of l.waiters) l.start l.search l.steps l._step l.ring.items l.client
