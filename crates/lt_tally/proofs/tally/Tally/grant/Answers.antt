use Rattle.std.proofs.Common.{◌++◌, ◌∷◌, [], sym, subst}
use Rattle.lt_modes.specs.declared.event.Event.TheVariants.{Grant}
use Rattle.lt_spec.specs.Holdings.{holdings}
use Rattle.lt_tally.specs.LockTable.{Tally, IsTallied}
use Rattle.lt_tally.proofs.Telling.{tells_next}
use Rattle.lt_tally.proofs.tally.Tally.grant.Goals as goal

pub returns-clause-granted : goal.returns-clause-granted
returns-clause-granted c = λ events tells.
    let script = c.args.script.now in
    let granted = Grant c.args.client c.args.set c.args.mode in
    let before = subst (λ (tally : Tally). IsTallied script tally events) (sym c.self.view_is) tells in
    subst (λ (tally : Tally). IsTallied script tally (events ++ granted ∷ [])) (sym c.wait.ensures)
    (tells_next script _ events granted c.add.new.self before (c.in_ok-add.ensures.added (holdings script events) before.held))
