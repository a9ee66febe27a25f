use Rattle.std.proofs.Common.{◌≡◌, ◌∙◌, ◌&&◌, Bool, false, ap, not, subst, sym}
use Rattle.lt_modes.specs.Modes.{has, covers}
use Rattle.lt_core.specs.CoreData.{CoreData}
use Rattle.lt_core.proofs.one_set.Core.is_charged.Goals as goal

pub returns-else-covers : goal.returns-else-covers
returns-else-covers c =
    let mode = c.args.mode in
    let frozen = not (has mode c.self.inside.frozen) in
    c.if-covers.false
    ∙ subst (λ (k : CoreData). false ≡ (covers k.state.charge mode && not (has mode k.state.frozen))) c.self.view_is
    (ap (λ (t : Bool). t && frozen) (sym (sym c.covers.ensures ∙ c.if-covers.false)))
