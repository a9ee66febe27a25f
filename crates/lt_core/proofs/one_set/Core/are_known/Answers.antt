use Rattle.std.proofs.Common.{◌∙◌, ◌++◌, List, ap, refl}
use Rattle.std.specs.List.{list_all}
use Rattle.lt_modes.specs.State.{no_ask}
use Rattle.lt_modes.specs.Fits.{is_known, parked_asks}
use Rattle.lt_modes.specs.declared.ask.Ask.{Ask}
use Rattle.lt_core.proofs.FitsLemmas.{all_stops, all_goes_on, none_left, is_place}
use Rattle.lt_core.proofs.one_set.Core.are_known.Goals as goal

pub loop-k-init : goal.loop-k-init
loop-k-init c = refl

pub ask-requires : goal.ask-requires
ask-requires c = is_place _ _ _ c.loop-k-test.true c.len-k-end.ensures.length

pub returns-then-not-is_known : goal.returns-then-not-is_known
returns-then-not-is_known c =
    let core = c.args.self.now in
    let test = is_known core.node core.state in
    all_stops (λ (asks : List Ask). list_all test (asks ++ parked_asks core.state)) (λ ask rest. test ask) c.args.desk.now.desk.queue no_ask c.loop-k.k c.is_known.result (λ ask rest. refl)
    (is_place _ _ _ c.loop-k-test.true c.len-k-end.ensures.length) (c.is_known.ensures ∙ ap test c.ask.ensures) c.if-not-is_known.true
    ∙ c.loop-k.invariant

pub loop-k-preserved : goal.loop-k-preserved
loop-k-preserved c =
    let core = c.args.self.now in
    let test = is_known core.node core.state in
    all_goes_on (λ (asks : List Ask). list_all test (asks ++ parked_asks core.state)) (λ ask rest. test ask) c.args.desk.now.desk.queue no_ask c.loop-k.k c.is_known.result (λ ask rest. refl)
    (is_place _ _ _ c.loop-k-test.true c.len-k-end.ensures.length) (c.is_known.ensures ∙ ap test c.ask.ensures) c.if-not-is_known.false
    ∙ c.loop-k.invariant

pub returns : goal.returns
returns c =
    let core = c.args.self.now in
    c.parked_known.ensures
    ∙ (none_left (λ (asks : List Ask). list_all (is_known core.node core.state) (asks ++ parked_asks core.state)) c.args.desk.now.desk.queue c.len-k-end.result c.loop-k.k
    c.len-k-end.ensures.length c.loop-k-test.false
    ∙ c.loop-k.invariant)
