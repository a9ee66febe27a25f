use Rattle.std.proofs.Common.{◌∙◌, ◌==◌, ap, find, refl, slice_index_or, sym}
use Rattle.std.proofs.lemmas.List.{drop_all}
use Rattle.lt_modes.specs.State.{no_ask}
use Rattle.lt_modes.specs.declared.ask.Ask.{Ask}
use Rattle.lt_core.specs.CoreData.{CoreData}
use Rattle.lt_core.proofs.FitsLemmas.{found_here, found_later}
use Rattle.lt_core.proofs.one_set.Core.ask_of.Goals as goal

pub loop-k-init : goal.loop-k-init
loop-k-init c = refl

pub returns-then-asks-k : goal.returns-then-asks-k
returns-then-asks-k c =
    let asks = c.asks-asks.result.now in
    let k = c.loop-k.k in
    found_here c.args.client asks k (slice_index_or asks k no_ask) c.loop-k-test.true refl c.if-asks-k.true
    ∙ (c.loop-k.invariant
    ∙ ap (find (λ (ask : Ask). ask.client == c.args.client)) (c.asks-asks.ensures ∙ ap (λ (core : CoreData). core.state.pending) c.self.view_is))

pub loop-k-preserved : goal.loop-k-preserved
loop-k-preserved c =
    let asks = c.asks-asks.result.now in
    let k = c.loop-k.k in
    found_later c.args.client asks k (slice_index_or asks k no_ask) c.loop-k-test.true refl c.if-asks-k.false ∙ c.loop-k.invariant

pub returns : goal.returns
returns c =
    let asks = c.asks-asks.result.now in
    sym (ap (find (λ (ask : Ask). ask.client == c.args.client)) (drop_all c.loop-k.k asks c.loop-k-test.false))
    ∙ (c.loop-k.invariant
    ∙ ap (find (λ (ask : Ask). ask.client == c.args.client)) (c.asks-asks.ensures ∙ ap (λ (core : CoreData). core.state.pending) c.self.view_is))
