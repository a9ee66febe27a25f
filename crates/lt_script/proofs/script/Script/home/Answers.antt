use Rattle.std.proofs.Common.{◌∙◌, ◌<◌, ℕ, List, length, sym, ap, subst}
use Rattle.lt_modes.specs.Script.{ScriptData, ClientData, node_of_client}
use Rattle.lt_script.proofs.ScriptLemmas.{read_at}
use Rattle.lt_script.proofs.script.Script.home.Goals as goal

pub bounds-items-from : goal.bounds-items-from
bounds-items-from c =
    let clients = c.items.ensures ∙ ap (λ p. p.clients) c.deref.ensures ∙ ap (λ (s : ScriptData). s.clients) c.self.view_is in
    let inside = subst (λ (k : ℕ). k < length c.args.self.now.clients) (sym c.from.ensures) c.requires in
    subst (λ (l : List ClientData). c.from.result < length l) (sym clients) inside

pub returns : goal.returns
returns c =
    let clients = c.items.ensures ∙ ap (λ p. p.clients) c.deref.ensures ∙ ap (λ (s : ScriptData). s.clients) c.self.view_is in
    let inside = subst (λ (k : ℕ). k < length c.args.self.now.clients) (sym c.from.ensures) c.requires in
    c.node.ensures ∙ rw (sym c.from.ensures) (sym (ap node_of_client (read_at c.args.self.now.clients c.items.result.now c.from.result c.index-items-from.result clients inside c.index-items-from.is)))
