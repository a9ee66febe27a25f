use Rattle.lt_modes.specs.State.{then_do}
use Rattle.lt_modes.specs.Serving.{serve}
use Rattle.lt_modes.specs.HandingOver.{hand_over}
use Rattle.lt_modes.specs.Freezing.{freeze}
use Rattle.lt_core.proofs.NoticeLemmas.{does_then, fits_first, fits_after}
use Rattle.lt_core.proofs.one_set.Core.attend.Goals as goal

pub serve-draw-requires-clause-fits : goal.serve-draw-requires-clause-fits
serve-draw-requires-clause-fits c =
    let s = c.args.self.now in
    let stamp = c.args.stamp in
    let first = serve s.set stamp s.state in
    let second = freeze s.set stamp first.state in
    fits_first first second c.args.out.now (fits_first (then_do first (freeze s.set stamp)) (hand_over s.set stamp second.state) c.args.out.now c.requires.fits)

pub freeze-requires-clause-fits : goal.freeze-requires-clause-fits
freeze-requires-clause-fits c =
    let s = c.args.self.now in
    let stamp = c.args.stamp in
    let first = serve s.set stamp s.state in
    let second = freeze s.set stamp first.state in
    fits_after first (λ set. freeze set stamp) s c.serve-draw.new.self c.args.out.now c.serve-draw.new.out c.serve-draw.ensures.does
    (fits_first (then_do first (freeze s.set stamp)) (hand_over s.set stamp second.state) c.args.out.now c.requires.fits)

pub hand_over-requires-clause-fits : goal.hand_over-requires-clause-fits
hand_over-requires-clause-fits c =
    let s = c.args.self.now in
    let stamp = c.args.stamp in
    let first = serve s.set stamp s.state in
    fits_after (then_do first (freeze s.set stamp)) (λ set. hand_over set stamp) s c.freeze.new.self c.args.out.now c.freeze.new.out
    (does_then first (λ set. freeze set stamp) s c.serve-draw.new.self c.freeze.new.self c.args.out.now c.serve-draw.new.out c.freeze.new.out c.serve-draw.ensures.does c.freeze.ensures.does)
    c.requires.fits

pub returns : goal.returns
returns c =
    let s = c.args.self.now in
    let stamp = c.args.stamp in
    let first = serve s.set stamp s.state in
    record {
      does = does_then (then_do first (freeze s.set stamp)) (λ set. hand_over set stamp) s c.freeze.new.self c.hand_over.new.self c.args.out.now c.freeze.new.out c.hand_over.new.out
          (does_then first (λ set. freeze set stamp) s c.serve-draw.new.self c.freeze.new.self c.args.out.now c.serve-draw.new.out c.freeze.new.out c.serve-draw.ensures.does c.freeze.ensures.does)
          c.hand_over.ensures.does;
    }
