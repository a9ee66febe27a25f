use Rattle.std.proofs.Common.{◌≡◌, ◌+◌, ◌<◌, ◌^◌, length, ap, arith, refl, rules, subst}
use Rattle.lt_modes.specs.State.{after_holders_from, entered}
use Rattle.lt_queue.proofs.HolderLemmas.{kept_holder, kept_plain, kept_within}
use Rattle.lt_queue.proofs.queue.Queue.after_holders_with.Goals as goal

pub overflow_add-result : goal.overflow_add-result
overflow_add-result c =
    let few = kept_within c.self.inside.asks.items 0 0 (omega arith) in
    let small : c.self.inside.after_holders + 1 < 2 ^ 32 = omega (
      arith,
      c.self.invariant.0,
      c.self.invariant.1.1,
      few,
      ap (λ q. length q.asks) c.self.view_is,
      ap (λ q. q.room) c.self.view_is,
      c.requires,
    ) in
    search rules

pub returns-then-ask : goal.returns-then-ask
returns-then-ask c =
    let kept = c.self.inside.after_holders in
    subst (λ list. kept + 1 ≡ after_holders_from 0 0 (entered list c.args.ask.now)) (ap (λ q. q.asks) c.self.view_is)
    (kept_holder c.self.inside.asks.items c.args.ask.now kept (kept + 1) c.self.invariant.1.1 (search rules) refl)

pub returns-else-ask : goal.returns-else-ask
returns-else-ask c =
    let kept = c.self.inside.after_holders in
    subst (λ list. kept ≡ after_holders_from 0 0 (entered list c.args.ask.now)) (ap (λ q. q.asks) c.self.view_is)
    (kept_plain c.self.inside.asks.items c.args.ask.now kept c.self.invariant.1.1 (search rules))
