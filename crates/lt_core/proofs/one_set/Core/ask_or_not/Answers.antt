use Rattle.std.proofs.Common.{◌≡◌, ◌∙◌, false, subst, sym}
use Rattle.lt_modes.specs.Serving.{is_gone}
use Rattle.lt_core.specs.CoreData.{CoreData}
use Rattle.lt_core.proofs.one_set.Core.ask_or_not.Goals as goal

pub wait-requires-clause-pending : goal.wait-requires-clause-pending
wait-requires-clause-pending c =
    c.requires.room.pending (subst (λ (k : CoreData). is_gone k.state c.args.client ≡ false) c.self.view_is (sym c.has.ensures ∙ c.if-has.false))
