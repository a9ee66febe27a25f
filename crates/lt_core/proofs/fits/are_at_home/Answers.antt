use Rattle.std.proofs.Common.{◌∙◌, ap, refl}
use Rattle.std.specs.List.{list_all}
use Rattle.lt_modes.specs.State.{no_ask}
use Rattle.lt_modes.specs.Fits.{is_at_home}
use Rattle.lt_core.specs.Steps.{rule_numbers}
use Rattle.lt_core.proofs.FitsLemmas.{all_stops, all_goes_on, none_left, is_place}
use Rattle.lt_core.proofs.fits.are_at_home.Goals as goal

pub loop-k-init : goal.loop-k-init
loop-k-init c = refl

pub ask-requires : goal.ask-requires
ask-requires c = is_place _ _ _ c.loop-k-test.true c.len-k-end.ensures.length

pub returns-then-not-is_at_home : goal.returns-then-not-is_at_home
returns-then-not-is_at_home c =
    let test = is_at_home (rule_numbers c.args.numbers.now) in
    let queue = c.args.desk.now.desk.queue in
    all_stops (list_all test) (λ ask rest. test ask) queue no_ask c.loop-k.k c.is_at_home.result (λ ask rest. refl) (is_place _ _ _ c.loop-k-test.true c.len-k-end.ensures.length)
    (c.is_at_home.ensures ∙ ap test c.ask.ensures) c.if-not-is_at_home.true
    ∙ c.loop-k.invariant

pub loop-k-preserved : goal.loop-k-preserved
loop-k-preserved c =
    let test = is_at_home (rule_numbers c.args.numbers.now) in
    let queue = c.args.desk.now.desk.queue in
    all_goes_on (list_all test) (λ ask rest. test ask) queue no_ask c.loop-k.k c.is_at_home.result (λ ask rest. refl) (is_place _ _ _ c.loop-k-test.true c.len-k-end.ensures.length)
    (c.is_at_home.ensures ∙ ap test c.ask.ensures) c.if-not-is_at_home.false
    ∙ c.loop-k.invariant

pub returns : goal.returns
returns c =
    none_left (list_all (is_at_home (rule_numbers c.args.numbers.now))) c.args.desk.now.desk.queue c.len-k-end.result c.loop-k.k c.len-k-end.ensures.length c.loop-k-test.false
    ∙ c.loop-k.invariant
