use Rattle.std.proofs.Common.{◌≡◌, ◌∙◌, ◌<◌, ◌++◌, ◌∷◌, [], false, length, sym, ap, subst}
use Rattle.lt_modes.specs.Script.{ScriptData, SetData}
use Rattle.lt_spec.specs.declared.limits.TheConstants.{MAX_SETS_OF_SERVICE}
use Rattle.lt_spec.specs.Script.{IsFamilyOfNext, is_declared}
use Rattle.lt_script.specs.Views.{script_data}
use Rattle.lt_script.proofs.NameLemmas.{is_new}
use Rattle.lt_script.proofs.ScriptLemmas.{set_added, family_not_later, few_sets}
use Rattle.lt_script.proofs.script.Script.add_set_hashed.Goals as goal

pub push-requires-clause-new : goal.push-requires-clause-new
push-requires-clause-new c =
    let s = script_data c.self.inside in
    let new = subst (λ (v : ScriptData). is_declared v c.args.name.now ≡ false) (sym (c.self.view_is ∙ c.in_ok-own_parts.ensures)) c.requires.new in
    rw (c.in-Some.ensures.value, c.new.ensures) (is_new s c.args.name.now new).no_set

pub push-requires-clause-few : goal.push-requires-clause-few
push-requires-clause-few c =
    let room = subst (λ (v : ScriptData). length v.sets < MAX_SETS_OF_SERVICE) (sym (c.self.view_is ∙ c.in_ok-own_parts.ensures)) c.requires.room in
    rw (c.in-Some.ensures.value) (few_sets _ room)

pub push-requires-clause-family : goal.push-requires-clause-family
push-requires-clause-family c =
    let s = script_data c.self.inside in
    let fits = subst (λ (v : ScriptData). IsFamilyOfNext v.sets c.args.family) (sym (c.self.view_is ∙ c.in_ok-own_parts.ensures)) c.requires.family in
    rw (c.in-Some.ensures.value, c.new.ensures) (family_not_later s.sets c.args.family fits)

pub invariant_of-self : goal.invariant_of-self
invariant_of-self c = c.self.invariant

pub returns-in_default-clause-unchanged : goal.returns-in_default-clause-unchanged
returns-in_default-clause-unchanged c = c.self.view_is ∙ c.in_ok-own_parts.ensures

pub invariant_of-self-in_err-push : goal.invariant_of-self-in_err-push
invariant_of-self-in_err-push c = rw (c.in_err-push.ensures.unchanged, c.in-Some.ensures.value) c.self.invariant

pub invariant_of-self-2 : goal.invariant_of-self-2
invariant_of-self-2 c =
    let s = script_data c.self.inside in
    let at = c.self.view_is ∙ c.in_ok-own_parts.ensures in
    let x : SetData = record { name = c.args.name.now; family = c.args.family } in
    let new = subst (λ (v : ScriptData). is_declared v x.name ≡ false) (sym at) c.requires.new in
    let room = subst (λ (v : ScriptData). length v.sets < MAX_SETS_OF_SERVICE) (sym at) c.requires.room in
    let fits = subst (λ (v : ScriptData). IsFamilyOfNext v.sets x.family) (sym at) c.requires.family in
    rw (c.in_ok-push.ensures.pushed, c.in-Some.ensures.value, c.new.ensures) (set_added s x c.self.invariant c.requires.name new room fits)

pub returns-clause-added : goal.returns-clause-added
returns-clause-added c =
    let x : SetData = record { name = c.args.name.now; family = c.args.family } in
    rw (c.in_ok-push.ensures.pushed, c.in-Some.ensures.value, c.new.ensures)
    (ap (λ (s : ScriptData). record s { sets = s.sets ++ x ∷ [] }) (c.self.view_is ∙ c.in_ok-own_parts.ensures))
