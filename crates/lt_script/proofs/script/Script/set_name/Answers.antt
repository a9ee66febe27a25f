use Rattle.std.proofs.Common.{◌∙◌, ◌<◌, List, length, sym, ap, subst}
use Rattle.lt_modes.specs.Script.{ScriptData, SetData, name_of_set}
use Rattle.lt_script.proofs.ScriptLemmas.{read_at}
use Rattle.lt_script.proofs.script.Script.set_name.Goals as goal

pub bounds-items-set : goal.bounds-items-set
bounds-items-set c =
    let sets = c.items.ensures ∙ ap (λ p. p.sets) c.deref.ensures ∙ ap (λ (s : ScriptData). s.sets) c.self.view_is in
    subst (λ (l : List SetData). c.args.set < length l) (sym sets) c.requires

pub returns : goal.returns
returns c =
    let sets = c.items.ensures ∙ ap (λ p. p.sets) c.deref.ensures ∙ ap (λ (s : ScriptData). s.sets) c.self.view_is in
    c.name.ensures ∙ sym (ap name_of_set (read_at c.args.self.now.sets c.items.result.now c.args.set c.index-items-set.result sets c.requires c.index-items-set.is))
