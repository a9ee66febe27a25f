use Rattle.std.proofs.Common.{◌∙◌, List, ap, filter_map, map, refl, rules}
use Rattle.lt_modes.specs.Fits.{has_client, ask_if}
use Rattle.lt_desk.specs.LetterSeen.{parked_seen}
use Rattle.lt_desk.specs.declared.parked.Parked.{Parked}
use Rattle.lt_core.specs.Steps.{is_ask_of}
use Rattle.lt_core.proofs.BoundLemmas.{client_first}
use Rattle.lt_core.proofs.FitsLemmas.{any_stops, any_goes_on}
use Rattle.lt_core.proofs.fits.parks_later.Goals as goal

pub loop-k-init : goal.loop-k-init
loop-k-init c = refl

pub returns-then-is_of : goal.returns-then-is_of
returns-then-is_of c =
    let client = c.args.client in
    any_stops (λ (items : List Parked). has_client client (filter_map ask_if (map parked_seen items))) (λ (item : Parked) rest. is_ask_of client (parked_seen item))
    c.args.parked.now.items c.index.result.now c.loop-k.k c.is_of.result (λ item rest. client_first client (parked_seen item) (map parked_seen rest)) (search rules)
    (c.is_of.ensures ∙ ap (λ (item : Parked). is_ask_of client (parked_seen item)) c.index.ensures) c.if-is_of.true
    ∙ c.loop-k.invariant

pub loop-k-preserved : goal.loop-k-preserved
loop-k-preserved c =
    let client = c.args.client in
    any_goes_on (λ (items : List Parked). has_client client (filter_map ask_if (map parked_seen items))) (λ (item : Parked) rest. is_ask_of client (parked_seen item))
    c.args.parked.now.items c.index.result.now c.loop-k.k c.is_of.result (λ item rest. client_first client (parked_seen item) (map parked_seen rest)) (search rules)
    (c.is_of.ensures ∙ ap (λ (item : Parked). is_ask_of client (parked_seen item)) c.index.ensures) c.if-is_of.false
    ∙ c.loop-k.invariant
