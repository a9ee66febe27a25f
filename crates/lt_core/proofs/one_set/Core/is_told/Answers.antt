use Rattle.std.proofs.Common.{◌≡◌, ◌∙◌, Bool, ◌||◌, sym, ap}
use Rattle.lt_modes.specs.Modes.{Modes, bars, held_modes, same_modes}
use Rattle.lt_core.specs.CoreData.{CoreData}
use Rattle.lt_core.proofs.NoticeLemmas.{bars_or_same}
use Rattle.lt_core.proofs.one_set.Core.is_told.Goals as goal

pub returns-then-same : goal.returns-then-same
returns-then-same c =
    let s = c.args.self.now.state in
    let held = held_modes s.held in
    let barred = same_modes (bars held) (bars s.charge) in
    let is : c.same.result ≡ same_modes held s.charge =
    c.same.ensures
    ∙ ap (λ (m : Modes). same_modes m c.self.inside.charge) c.modes-held.ensures
    ∙ ap (λ (core : CoreData). same_modes (held_modes core.state.held) core.state.charge) c.self.view_is in
    c.if-same.true ∙ sym (sym (bars_or_same held s.charge) ∙ ap (λ (t : Bool). t || barred) (sym is ∙ c.if-same.true))
