use Rattle.std.proofs.Common.{◌≡◌, ◌∙◌, ◌||◌, ◌+◌, ℕ, Bool, true, false, drop, arith, sym, ap, slice_index_or}
use Rattle.std.specs.List.{list_any}
use Rattle.lt_modes.specs.declared.mode.Mode.{Mode}
use Rattle.lt_modes.specs.declared.mode.Mode.TheVariants.{IntentionRead}
use Rattle.lt_modes.specs.declared.mode.TheConstants.{MODES}
use Rattle.lt_world.specs.Fields.{bars_by_lock}
use Rattle.lt_world.proofs.AgainstLemmas.{against_all, against_step}
use Rattle.lt_world.proofs.world.World.holds_against.Goals as goal

pub loop-own-init : goal.loop-own-init
loop-own-init c = against_all (bars_by_lock c.args.self.now c.args.set c.args.mode c.args.client)

pub loop-own-preserved : goal.loop-own-preserved
loop-own-preserved c =
    let test : Mode → Bool = bars_by_lock c.args.self.now c.args.set c.args.mode c.args.client in
    let k : ℕ = c.loop-own.own-index in
    let here : test (slice_index_or MODES k IntentionRead) ≡ false = sym c.is_against.ensures ∙ c.if-is_against.false in
    sym (against_step test k (omega (arith, c.loop-own-test.true)) ∙ ap (λ (b : Bool). b || list_any test (drop (k + 1) MODES)) here) ∙ c.loop-own.invariant

pub returns-then-is_against : goal.returns-then-is_against
returns-then-is_against c =
    let test : Mode → Bool = bars_by_lock c.args.self.now c.args.set c.args.mode c.args.client in
    let k : ℕ = c.loop-own.own-index in
    let here : test (slice_index_or MODES k IntentionRead) ≡ true = sym c.is_against.ensures ∙ c.if-is_against.true in
    sym (against_step test k (omega (arith, c.loop-own-test.true)) ∙ ap (λ (b : Bool). b || list_any test (drop (k + 1) MODES)) here) ∙ c.loop-own.invariant

pub returns : goal.returns
returns c =
    let test : Mode → Bool = bars_by_lock c.args.self.now c.args.set c.args.mode c.args.client in
    let end : 6 ≡ c.loop-own.own-index = omega (arith, c.loop-own-test.false, c.loop-own.auto.own-index-end) in
    ap (λ (n : ℕ). list_any test (drop n MODES)) end ∙ c.loop-own.invariant
