use Rattle.std.proofs.Common.{◌≡◌, ◌∙◌, Bool, false, None, ap, if◌then◌else◌, is_some, subst, sym}
use Rattle.lt_modes.specs.Serving.{is_gone}
use Rattle.lt_modes.specs.Waiting.{pending_ask}
use Rattle.lt_core.specs.CoreData.{CoreData}
use Rattle.lt_core.proofs.MarkLemmas.{live_some}
use Rattle.lt_core.proofs.one_set.Core.live_ask.Goals as goal

pub returns-else-has-clause-some : goal.returns-else-has-clause-some
returns-else-has-clause-some c =
    let core : CoreData = c.args.self.now in
    let live : is_gone core.state c.args.client ≡ false =
    subst (λ (k : CoreData). is_gone k.state c.args.client ≡ false) c.self.view_is (sym c.has.ensures ∙ c.if-has.false) in
    ap is_some (c.ask_of.ensures ∙ sym (ap (λ (gone : Bool). if gone then None else pending_ask core.state c.args.client) live))
    ∙ live_some core.state c.args.client
