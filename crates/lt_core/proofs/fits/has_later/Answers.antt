use Rattle.std.proofs.Common.{◌∙◌, ◌==◌, ap, eq-eqb, ne_eqb, refl}
use Rattle.lt_modes.specs.State.{no_ask}
use Rattle.lt_modes.specs.Fits.{has_client}
use Rattle.lt_modes.specs.declared.ask.Ask.{Ask}
use Rattle.lt_core.proofs.FitsLemmas.{any_stops, any_goes_on, none_left, is_place}
use Rattle.lt_core.proofs.fits.has_later.Goals as goal

pub loop-k-init : goal.loop-k-init
loop-k-init c = refl

pub ask-requires : goal.ask-requires
ask-requires c = is_place _ _ _ c.loop-k-test.true c.len-k-end.ensures.length

pub returns-then-ask-client : goal.returns-then-ask-client
returns-then-ask-client c =
    let client = c.args.client in
    any_stops (has_client client) (λ (ask : Ask) rest. ask.client == client) c.args.desk.now.desk.queue no_ask c.loop-k.k (c.ask.result.client == client) (λ ask rest. refl)
    (is_place _ _ _ c.loop-k-test.true c.len-k-end.ensures.length) (ap (λ (ask : Ask). ask.client == client) c.ask.ensures) (eq-eqb c.ask.result.client client c.if-ask-client.true)
    ∙ c.loop-k.invariant

pub loop-k-preserved : goal.loop-k-preserved
loop-k-preserved c =
    let client = c.args.client in
    any_goes_on (has_client client) (λ (ask : Ask) rest. ask.client == client) c.args.desk.now.desk.queue no_ask c.loop-k.k (c.ask.result.client == client) (λ ask rest. refl)
    (is_place _ _ _ c.loop-k-test.true c.len-k-end.ensures.length) (ap (λ (ask : Ask). ask.client == client) c.ask.ensures) (ne_eqb c.ask.result.client client c.if-ask-client.false)
    ∙ c.loop-k.invariant

pub returns : goal.returns
returns c =
    none_left (has_client c.args.client) c.args.desk.now.desk.queue c.len-k-end.result c.loop-k.k c.len-k-end.ensures.length c.loop-k-test.false
    ∙ c.loop-k.invariant
