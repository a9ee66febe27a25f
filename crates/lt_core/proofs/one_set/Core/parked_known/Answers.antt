use Rattle.std.proofs.Common.{◌∙◌, List, filter_map, refl}
use Rattle.std.specs.List.{list_all}
use Rattle.lt_modes.specs.State.{Parked, ParkedAsk, no_ask}
use Rattle.lt_modes.specs.Fits.{is_known, ask_if}
use Rattle.lt_core.specs.Steps.{is_known_item}
use Rattle.lt_core.proofs.FitsLemmas.{all_stops, all_goes_on, none_left, is_place, known_first}
use Rattle.lt_core.proofs.one_set.Core.parked_known.Goals as goal

pub loop-k-init : goal.loop-k-init
loop-k-init c = refl

pub knows-requires : goal.knows-requires
knows-requires c = is_place _ _ _ c.loop-k-test.true c.parked_len-k-end.ensures

pub returns-then-not-knows : goal.returns-then-not-knows
returns-then-not-knows c =
    let core = c.args.self.now in
    all_stops (λ (items : List Parked). list_all (is_known core.node core.state) (filter_map ask_if items)) (λ item rest. is_known_item core.node core.state item) core.state.parked (ParkedAsk no_ask)
    c.loop-k.k c.knows.result (known_first core.node core.state) (is_place _ _ _ c.loop-k-test.true c.parked_len-k-end.ensures) c.knows.ensures c.if-not-knows.true
    ∙ c.loop-k.invariant

pub loop-k-preserved : goal.loop-k-preserved
loop-k-preserved c =
    let core = c.args.self.now in
    all_goes_on (λ (items : List Parked). list_all (is_known core.node core.state) (filter_map ask_if items)) (λ item rest. is_known_item core.node core.state item) core.state.parked (ParkedAsk no_ask)
    c.loop-k.k c.knows.result (known_first core.node core.state) (is_place _ _ _ c.loop-k-test.true c.parked_len-k-end.ensures) c.knows.ensures c.if-not-knows.false
    ∙ c.loop-k.invariant

pub returns : goal.returns
returns c =
    let core = c.args.self.now in
    none_left (λ (items : List Parked). list_all (is_known core.node core.state) (filter_map ask_if items)) core.state.parked c.parked_len-k-end.result c.loop-k.k
    c.parked_len-k-end.ensures c.loop-k-test.false
    ∙ c.loop-k.invariant
