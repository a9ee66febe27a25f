use Rattle.std.proofs.Common.{rules, subst, sym, arith}
use Rattle.lt_queue.specs.QueueData.{AreAskCounts}
use Rattle.lt_queue.proofs.AskedLemmas.{one_went}
use Rattle.lt_queue.proofs.queue.Queue.remove.Goals as goal

pub invariant_of-self : goal.invariant_of-self
invariant_of-self c = (
  omega (arith, c.remove-ask.ensures.capacity, c.self.invariant.0),
  (
    subst (λ asks. AreAskCounts asks c.shifted-self-inside.result) (sym c.remove-ask.ensures.items)
        (one_went c.self.inside.asks.items c.self.inside.asked c.shifted-self-inside.result c.args.k c.remove-ask.result c.one.result c.empty.result
        c.self.invariant.1.0 (search rules) (search rules) c.one.ensures c.empty.ensures c.shifted-self-inside.ensures),
    search rules,
  ),
)
