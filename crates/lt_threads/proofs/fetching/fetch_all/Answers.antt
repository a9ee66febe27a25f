-- One runner more has looked.
use Rattle.std.proofs.Common.{ℕ, ◌≡◌, length, subst, arith, vec_len}
use Rattle.lt_runner.specs.declared.parts.Parts.{Parts}
use Rattle.lt_runner.specs.Kept.{AsSeen, Fetches}
use Rattle.lt_threads.specs.Meeting.{Fetching}
use Rattle.lt_threads.proofs.Each.{each_len, next_fetched, fetching_starts}
use Rattle.lt_threads.proofs.fetching.fetch_all.Goals as goal

pub loop-k-init : goal.loop-k-init
loop-k-init c = fetching_starts c.args.runners.now.items c.requires

pub loop-k-preserved : goal.loop-k-preserved
loop-k-preserved c =
    let same = each_len AsSeen c.args.runners.now.items c.loop-k.runners.items c.loop-k.invariant.seen in
    let count : length c.args.runners.now.items ≡ vec_len c.args.runners.now = omega (arith, c.args.runners.now.ok.0) in
    next_fetched c.loop-k.k c.args.runners.now.items c.loop-k.runners.items c.index_mut.result.now c.fetch.new.self
    (omega (arith, same, count, c.len-k-end.ensures, c.loop-k-test.true)) c.loop-k.invariant
    (subst (λ (p : Parts). Fetches p c.fetch.new.self) c.index_mut.ensures.value c.fetch.ensures.seen) c.fetch.ensures.hand

pub returns : goal.returns
returns c =
    let same = each_len AsSeen c.args.runners.now.items c.loop-k.runners.items c.loop-k.invariant.seen in
    let count : length c.args.runners.now.items ≡ vec_len c.args.runners.now = omega (arith, c.args.runners.now.ok.0) in
    let now : length c.loop-k.runners.items ≡ vec_len c.loop-k.runners = omega (arith, c.loop-k.runners.ok.0) in
    subst (λ (n : ℕ). Fetching n c.args.runners.now.items c.loop-k.runners.items)
    (omega (arith, same, count, now, c.len-k-end.ensures, c.loop-k-test.false, c.loop-k.auto.k-end)) c.loop-k.invariant
