use Rattle.std.proofs.Common.{◌≡◌, ◌+◌, ◌<◌, ◌^◌, ◌++◌, ◌∷◌, [], length, rules, subst, sym, ◌∙◌, ap}
use Rattle.lt_queue.specs.QueueData.{AreAskCounts}
use Rattle.lt_queue.proofs.AskedLemmas.{may_come, one_came}
use Rattle.lt_queue.proofs.LastLemmas.{put_last}
use Rattle.lt_queue.proofs.queue.Queue.push.Goals as goal

pub shifted-self-inside-requires : goal.shifted-self-inside-requires
shifted-self-inside-requires c =
    let few : length c.self.inside.asks.items + 1 < 2 ^ 32 = search rules in
    may_come c.self.inside.asks.items c.self.inside.asked c.args.ask c.empty.result c.one.result c.self.invariant.1.0 few c.empty.ensures c.one.ensures

pub invariant_of-self : goal.invariant_of-self
invariant_of-self c =
    let old = c.self.inside in
    let items : c.push_reserved.new.self.items ≡ old.asks.items ++ c.args.ask ∷ [] = search rules in (
      search rules,
      (
        subst (λ asks. AreAskCounts asks c.shifted-self-inside.result) (put_last old.asks.items c.args.ask ∙ sym items)
            (one_came old.asks.items old.asked c.shifted-self-inside.result (length old.asks.items) c.args.ask c.empty.result c.one.result
            c.self.invariant.1.0 c.empty.ensures c.one.ensures c.shifted-self-inside.ensures),
        search rules,
      ),
    )
