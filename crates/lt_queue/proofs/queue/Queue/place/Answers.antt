use Rattle.std.proofs.Common.{length, ap, arith}
use Rattle.lt_queue.proofs.HolderLemmas.{kept_within}
use Rattle.lt_queue.proofs.queue.Queue.place.Goals as goal

pub returns-then-holder-clause-within : goal.returns-then-holder-clause-within
returns-then-holder-clause-within c =
    omega (arith, c.self.invariant.1.1, kept_within c.self.inside.asks.items 0 0 (omega arith), ap (λ q. length q.asks) c.self.view_is)
