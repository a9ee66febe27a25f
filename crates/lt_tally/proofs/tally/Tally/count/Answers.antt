use Rattle.std.proofs.Common.{◌∙◌, sym, subst}
use Rattle.lt_tally.specs.LockTable.{Tally, IsTallied}
use Rattle.lt_tally.proofs.tally.Tally.count.Goals as goal

pub returns : goal.returns
returns c = λ script events tells has.
    let told = subst (λ (tally : Tally). IsTallied script tally events) (sym c.self.view_is) tells in
    c.count.ensures ∙ told.held.count c.args.lock has
