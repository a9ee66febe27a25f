use Rattle.std.proofs.Common.{sym, subst}
use Rattle.lt_modes.specs.State.{Made}
use Rattle.lt_modes.specs.SetMove.{finish}
use Rattle.lt_desk.specs.DeskData.{FitsOut}
use Rattle.lt_core.specs.CoreData.{Does, commanded}
use Rattle.lt_core.proofs.BoundLemmas.{move_is}
use Rattle.lt_core.proofs.NoticeLemmas.{does_then, fits_first, fits_after}
use Rattle.lt_core.proofs.one_set.Core.act.Goals as goal

pub obey-answer-requires-clause-fits : goal.obey-answer-requires-clause-fits
obey-answer-requires-clause-fits c =
    let s = c.args.self.now in
    let stamp = c.args.stamp in
    let first = commanded stamp c.args.client c.args.command s.set s.state in
    fits_first first (finish s.set stamp first.state) c.args.out.now
    (subst (λ (made : Made). FitsOut made c.args.out.now) (move_is stamp c.args.client c.args.command s.set s.state) c.requires.fits)

pub finish-requires-clause-fits : goal.finish-requires-clause-fits
finish-requires-clause-fits c =
    let s = c.args.self.now in
    let stamp = c.args.stamp in
    let first = commanded stamp c.args.client c.args.command s.set s.state in
    fits_after first (λ set. finish set stamp) s c.obey-answer.new.self c.args.out.now c.obey-answer.new.out c.obey-answer.ensures.does
    (subst (λ (made : Made). FitsOut made c.args.out.now) (move_is stamp c.args.client c.args.command s.set s.state) c.requires.fits)

pub returns-clause-does : goal.returns-clause-does
returns-clause-does c =
    let s = c.args.self.now in
    let stamp = c.args.stamp in
    let first = commanded stamp c.args.client c.args.command s.set s.state in
    subst (λ (made : Made). Does made s c.args.out.now c.finish.new.self c.finish.new.out) (sym (move_is stamp c.args.client c.args.command s.set s.state))
    (does_then first (λ set. finish set stamp) s c.obey-answer.new.self c.finish.new.self c.args.out.now c.obey-answer.new.out c.finish.new.out c.obey-answer.ensures.does c.finish.ensures.does)
