use Rattle.std.proofs.Common.{sym, subst, ℕ}
use Rattle.lt_modes.specs.State.{then_do}
use Rattle.lt_modes.specs.SetMove.{finish}
use Rattle.lt_modes.specs.Taking.{arrive}
use Rattle.lt_desk.specs.LetterSeen.{letter_seen}
use Rattle.lt_desk.specs.DeskData.{FitsOut}
use Rattle.lt_core.specs.CoreData.{Does}
use Rattle.lt_core.proofs.NoticeLemmas.{does_then, fits_first, fits_after}
use Rattle.lt_core.proofs.one_set.Core.take.Goals as goal

pub arrive-requires-clause-fits : goal.arrive-requires-clause-fits
arrive-requires-clause-fits c =
    let first = arrive c.args.stamp (letter_seen c.args.letter) c.args.self.now.state in
    fits_first first (finish c.args.letter.set c.args.stamp first.state) c.args.out.now c.requires.fits

pub finish-requires-clause-fits : goal.finish-requires-clause-fits
finish-requires-clause-fits c =
    let s = c.args.self.now in
    let first = arrive c.args.stamp (letter_seen c.args.letter) s.state in
    fits_after first (λ set. finish set c.args.stamp) s c.arrive.new.self c.args.out.now c.arrive.new.out c.arrive.ensures.does
    (subst (λ (set : ℕ). FitsOut (then_do first (finish set c.args.stamp)) c.args.out.now) c.requires.set c.requires.fits)

pub returns : goal.returns
returns c =
    let s = c.args.self.now in
    let first = arrive c.args.stamp (letter_seen c.args.letter) s.state in
    record {
      does = subst (λ (set : ℕ). Does (then_do first (finish set c.args.stamp)) s c.args.out.now c.finish.new.self c.finish.new.out) (sym c.requires.set)
          (does_then first (λ set. finish set c.args.stamp) s c.arrive.new.self c.finish.new.self c.args.out.now c.arrive.new.out c.finish.new.out c.arrive.ensures.does c.finish.ensures.does);
    }
