use Rattle.std.proofs.Common.{◌≡◌, ◌+◌, ◌++◌, ◌∷◌, [], length, ap, rules, subst, sym, ◌∙◌}
use Rattle.lt_modes.specs.State.{after_holders_from}
use Rattle.lt_queue.proofs.LastLemmas.{holder_last, plain_last}
use Rattle.lt_queue.proofs.queue.Queue.after_holders_pushed.Goals as goal

pub returns-then-ask : goal.returns-then-ask
returns-then-ask c =
    ap (λ n. n + 1) c.len.ensures.length ∙ holder_last c.args.self.now.asks c.args.ask.now (search rules)

pub returns-else-ask : goal.returns-else-ask
returns-else-ask c =
    let kept = c.self.inside.after_holders in
    subst (λ list. kept ≡ after_holders_from 0 0 (list ++ c.args.ask.now ∷ [])) (ap (λ q. q.asks) c.self.view_is)
    (plain_last c.self.inside.asks.items c.args.ask.now kept c.self.invariant.1.1 (search rules))
