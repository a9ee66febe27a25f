use Rattle.std.proofs.Common.{◌≡◌, ◌∙◌, false, subst, sym}
use Rattle.lt_modes.specs.Serving.{is_gone}
use Rattle.lt_modes.specs.State.{Made}
use Rattle.lt_core.specs.CoreData.{CoreData, Does}
use Rattle.lt_core.proofs.MarkLemmas.{answered_live}
use Rattle.lt_core.proofs.one_set.Core.answer.Goals as goal

pub returns-else-has-clause-does : goal.returns-else-has-clause-does
returns-else-has-clause-does c =
    let core : CoreData = c.args.self.now in
    let ask = c.args.ask.now in
    let live : is_gone core.state ask.client ≡ false =
    subst (λ (k : CoreData). is_gone k.state ask.client ≡ false) c.self.view_is (sym c.has.ensures ∙ c.if-has.false) in
    subst (λ (made : Made). Does made core c.args.out.now c.grant.new.self c.grant.new.out) (sym (answered_live core.set ask core.state live)) c.grant.ensures.does
