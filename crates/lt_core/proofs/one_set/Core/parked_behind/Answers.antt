use Rattle.std.proofs.Common.{◌∙◌, ◌==◌, ◌&&◌, List, filter_map, refl}
use Rattle.std.specs.List.{list_any}
use Rattle.lt_modes.specs.State.{Parked, ParkedAsk, no_ask}
use Rattle.lt_modes.specs.Fits.{ask_if}
use Rattle.lt_modes.specs.Waiting.{has_older}
use Rattle.lt_modes.specs.declared.ask.Ask.{Ask}
use Rattle.lt_core.specs.Behind.{is_behind_older}
use Rattle.lt_core.proofs.BoundLemmas.{behind_first}
use Rattle.lt_core.proofs.FitsLemmas.{any_stops, any_goes_on, none_left, is_place}
use Rattle.lt_core.proofs.one_set.Core.parked_behind.Goals as goal

pub loop-k-init : goal.loop-k-init
loop-k-init c = refl

pub is_behind-requires : goal.is_behind-requires
is_behind-requires c = is_place _ _ _ c.loop-k-test.true c.parked_len-k-end.ensures

pub returns-then-is_behind : goal.returns-then-is_behind
returns-then-is_behind c =
    let s = c.args.self.now.state in
    any_stops (λ (items : List Parked). list_any (λ (ask : Ask). ask.client == c.args.client && has_older s c.args.other ask) (filter_map ask_if items))
    (λ item rest. is_behind_older s c.args.other c.args.client item) s.parked (ParkedAsk no_ask) c.loop-k.k c.is_behind.result (behind_first s c.args.other c.args.client)
    (is_place _ _ _ c.loop-k-test.true c.parked_len-k-end.ensures) c.is_behind.ensures c.if-is_behind.true
    ∙ c.loop-k.invariant

pub loop-k-preserved : goal.loop-k-preserved
loop-k-preserved c =
    let s = c.args.self.now.state in
    any_goes_on (λ (items : List Parked). list_any (λ (ask : Ask). ask.client == c.args.client && has_older s c.args.other ask) (filter_map ask_if items))
    (λ item rest. is_behind_older s c.args.other c.args.client item) s.parked (ParkedAsk no_ask) c.loop-k.k c.is_behind.result (behind_first s c.args.other c.args.client)
    (is_place _ _ _ c.loop-k-test.true c.parked_len-k-end.ensures) c.is_behind.ensures c.if-is_behind.false
    ∙ c.loop-k.invariant

pub returns : goal.returns
returns c =
    let s = c.args.self.now.state in
    none_left (λ (items : List Parked). list_any (λ (ask : Ask). ask.client == c.args.client && has_older s c.args.other ask) (filter_map ask_if items)) s.parked
    c.parked_len-k-end.result c.loop-k.k c.parked_len-k-end.ensures c.loop-k-test.false
    ∙ c.loop-k.invariant
