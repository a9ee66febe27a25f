use Rattle.std.proofs.Common.{◌∙◌, ◌==◌, ◌&&◌, ap, length, refl}
use Rattle.std.specs.List.{list_any}
use Rattle.lt_modes.specs.Modes.{excludes_itself}
use Rattle.lt_modes.specs.Telling.{is_newer}
use Rattle.lt_modes.specs.State.{no_ask}
use Rattle.lt_modes.specs.declared.ask.Ask.{Ask}
use Rattle.lt_core.specs.CoreData.{CoreData}
use Rattle.lt_core.proofs.FitsLemmas.{any_stops, any_goes_on, none_left}
use Rattle.lt_core.proofs.one_set.Core.has_older.Goals as goal

pub loop-k-init : goal.loop-k-init
loop-k-init c = refl

pub returns-then-is_older : goal.returns-then-is_older
returns-then-is_older c =
    let test = λ (older : Ask). older.client == c.args.other && (excludes_itself older.mode && is_newer c.args.ask.now.stamp older.stamp) in
    any_stops (list_any test) (λ older rest. test older) c.asks-asks.result.now no_ask c.loop-k.k c.is_older.result (λ older rest. refl) c.loop-k-test.true c.is_older.ensures c.if-is_older.true
    ∙ (c.loop-k.invariant ∙ ap (list_any test) (c.asks-asks.ensures ∙ ap (λ (core : CoreData). core.state.pending) c.self.view_is))

pub loop-k-preserved : goal.loop-k-preserved
loop-k-preserved c =
    let test = λ (older : Ask). older.client == c.args.other && (excludes_itself older.mode && is_newer c.args.ask.now.stamp older.stamp) in
    any_goes_on (list_any test) (λ older rest. test older) c.asks-asks.result.now no_ask c.loop-k.k c.is_older.result (λ older rest. refl) c.loop-k-test.true c.is_older.ensures c.if-is_older.false
    ∙ c.loop-k.invariant

pub returns : goal.returns
returns c =
    let test = λ (older : Ask). older.client == c.args.other && (excludes_itself older.mode && is_newer c.args.ask.now.stamp older.stamp) in
    none_left (list_any test) c.asks-asks.result.now (length c.asks-asks.result.now) c.loop-k.k refl c.loop-k-test.false
    ∙ (c.loop-k.invariant ∙ ap (list_any test) (c.asks-asks.ensures ∙ ap (λ (core : CoreData). core.state.pending) c.self.view_is))
