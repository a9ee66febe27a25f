use Rattle.std.proofs.Common.{◌≡◌, ◌<◌, ◌≤◌, ◌+◌, ◌-◌, length, take, remove, ap, arith, rules, subst}
use Rattle.lt_modes.specs.State.{after_holders_from}
use Rattle.lt_queue.proofs.HolderLemmas.{kept_after, kept_before, kept_last}
use Rattle.lt_queue.proofs.queue.Queue.after_holders_without.Goals as goal

pub returns-then-self-k : goal.returns-then-self-k
returns-then-self-k c =
    let asks = c.self.inside.asks.items in
    let kept = c.self.inside.after_holders in
    let within : c.args.k < length asks = search rules in
    let earlier : kept ≤ c.args.k = search rules in
    subst (λ list. kept ≡ after_holders_from 0 0 (remove list c.args.k)) (ap (λ q. q.asks) c.self.view_is)
    (kept_after asks kept c.args.k c.self.invariant.1.1 within earlier)

pub returns-then-k-self : goal.returns-then-k-self
returns-then-k-self c =
    let asks = c.self.inside.asks.items in
    let kept = c.self.inside.after_holders in
    let within : c.args.k < length asks = search rules in
    let later : c.args.k + 1 < kept = search rules in
    subst (λ list. kept - 1 ≡ after_holders_from 0 0 (remove list c.args.k)) (ap (λ q. q.asks) c.self.view_is)
    (kept_before asks kept c.args.k (kept - 1) c.self.invariant.1.1 within later (omega (arith, later)))

pub returns-else-k-self : goal.returns-else-k-self
returns-else-k-self c =
    let asks = c.self.inside.asks.items in
    let kept = c.self.inside.after_holders in
    let within : c.args.k < length asks = search rules in
    let later : c.args.k < kept = search rules in
    let earlier : kept ≤ c.args.k + 1 = search rules in
    let found : c.after_holders.result ≡ after_holders_from 0 0 (take c.args.k asks) = search rules in
    subst (λ list. c.after_holders.result ≡ after_holders_from 0 0 (remove list c.args.k)) (ap (λ q. q.asks) c.self.view_is)
    (kept_last asks kept c.args.k c.after_holders.result c.self.invariant.1.1 within (omega (arith, later, earlier)) found)
