use Rattle.std.proofs.Common.{rules, ◌≡◌, ◌∙◌, ◌<◌, length, false, true}
use Rattle.lt_modes.specs.State.{no_ask}
use Rattle.lt_desk.specs.declared.parked.Parked.TheVariants.{Ask}
use Rattle.lt_core.proofs.FitsLemmas.{apart_refused, apart_passed}
use Rattle.lt_core.proofs.fits.asks_apart.Goals as goal

pub returns-then-not-is_apart : goal.returns-then-not-is_apart
returns-then-not-is_apart c =
    let items = c.args.parked.now.items in
    let k = c.loop-k.k in
    let within : k < length items = search rules in
    let refused : c.is_apart.result ≡ false = search rules in
    apart_refused items k c.is_apart.result within (c.is_apart.ensures (Ask no_ask)) refused ∙ c.loop-k.invariant

pub loop-k-preserved : goal.loop-k-preserved
loop-k-preserved c =
    let items = c.args.parked.now.items in
    let k = c.loop-k.k in
    let within : k < length items = search rules in
    let passed : c.is_apart.result ≡ true = search rules in
    apart_passed items k c.is_apart.result within (c.is_apart.ensures (Ask no_ask)) passed ∙ c.loop-k.invariant
