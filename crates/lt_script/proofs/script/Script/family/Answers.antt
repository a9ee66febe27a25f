use Rattle.std.proofs.Common.{◌∙◌, ◌<◌, ◌≤◌, ℕ, List, length, sym, ap, subst}
use Rattle.lt_modes.specs.Script.{ScriptData, SetData, family_at, family_of_set}
use Rattle.lt_spec.specs.Script.{IsScript}
use Rattle.lt_script.proofs.ScriptLemmas.{read_at, none_earlier}
use Rattle.lt_script.proofs.script.Script.family.Goals as goal

pub bounds-items-set : goal.bounds-items-set
bounds-items-set c =
    let sets = c.items.ensures ∙ ap (λ p. p.sets) c.deref.ensures ∙ ap (λ (s : ScriptData). s.sets) c.self.view_is in
    subst (λ (l : List SetData). c.args.set < length l) (sym sets) c.requires

pub returns-clause-family : goal.returns-clause-family
returns-clause-family c =
    let sets = c.items.ensures ∙ ap (λ p. p.sets) c.deref.ensures ∙ ap (λ (s : ScriptData). s.sets) c.self.view_is in
    c.family.ensures ∙ sym (ap family_of_set (read_at c.args.self.now.sets c.items.result.now c.args.set c.index-items-set.result sets c.requires c.index-items-set.is))

pub returns-clause-earlier : goal.returns-clause-earlier
returns-clause-earlier c =
    let kept : IsScript c.args.self.now = subst IsScript c.self.view_is c.self.invariant in
    subst (λ (n : ℕ). n ≤ c.args.set) (sym (returns-clause-family c)) (kept.families_not_later c.args.set c.requires)

pub returns-clause-first : goal.returns-clause-first
returns-clause-first c =
    let kept : IsScript c.args.self.now = subst IsScript c.self.view_is c.self.invariant in
    ap (family_at c.args.self.now.sets) (returns-clause-family c) ∙ kept.families_first c.args.set c.requires ∙ sym (returns-clause-family c)

pub returns-clause-none_before : goal.returns-clause-none_before
returns-clause-none_before c = λ k before.
    let kept : IsScript c.args.self.now = subst IsScript c.self.view_is c.self.invariant in
    none_earlier c.args.self.now c.args.set c.family.result k kept c.requires (returns-clause-earlier c) before
