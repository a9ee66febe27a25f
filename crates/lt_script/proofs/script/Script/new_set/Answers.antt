use Rattle.std.proofs.Common.{◌≡◌, ◌∙◌, ◌<◌, ℕ, false, is_some, sym, ap, subst}
use Rattle.lt_spec.specs.declared.limits.TheConstants.{MAX_SETS_OF_SERVICE}
use Rattle.lt_spec.specs.Script.{client_number}
use Rattle.lt_script.proofs.ScriptLemmas.{not_declared, set_new, sets_too_many}
use Rattle.lt_script.proofs.script.Script.new_set.Goals as goal

pub returns-then-set-ge-MAX_SETS_OF_SERVICE-clause-told : goal.returns-then-set-ge-MAX_SETS_OF_SERVICE-clause-told
returns-then-set-ge-MAX_SETS_OF_SERVICE-clause-told c =
    let no_client : is_some (client_number c.args.self.now c.args.name.now) ≡ false = ap is_some (sym c.client_hashed.ensures.number) ∙ sym c.if-is_some.ensures in
    sets_too_many c.args.self.now c.args.name.now c.args.parent c.sets-set.result (sym c.if-not-is_name.ensures) no_client c.in-Some.ensures.some.0 c.sets-set.ensures c.if-set-ge-MAX_SETS_OF_SERVICE.true

pub add_set_hashed-requires-clause-new : goal.add_set_hashed-requires-clause-new
add_set_hashed-requires-clause-new c =
    let no_client : is_some (client_number c.args.self.now c.args.name.now) ≡ false = ap is_some (sym c.client_hashed.ensures.number) ∙ sym c.if-is_some.ensures in
    not_declared c.args.self.now c.args.name.now c.requires.none no_client

pub add_set_hashed-requires-clause-room : goal.add_set_hashed-requires-clause-room
add_set_hashed-requires-clause-room c = subst (λ (n : ℕ). n < MAX_SETS_OF_SERVICE) c.sets-set.ensures c.if-set-ge-MAX_SETS_OF_SERVICE.false

pub returns-clause-told : goal.returns-clause-told
returns-clause-told c =
    let no_client : is_some (client_number c.args.self.now c.args.name.now) ≡ false = ap is_some (sym c.client_hashed.ensures.number) ∙ sym c.if-is_some.ensures in
    set_new c.args.self.now c.args.name.now c.args.parent c.sets-set.result (sym c.if-not-is_name.ensures) no_client c.in-Some.ensures.some.0 c.sets-set.ensures c.if-set-ge-MAX_SETS_OF_SERVICE.false
