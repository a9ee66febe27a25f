use Rattle.std.proofs.Common.{◌≡◌, ◌∙◌, ◌++◌, ap, ℕ, arith, get_or, take, flat_map}
use Rattle.lt_modes.specs.declared.mode.Mode.TheVariants.{IntentionRead}
use Rattle.lt_modes.specs.declared.mode.TheConstants.{MODES}
use Rattle.lt_spec.specs.Holdings.{holding, holdings}
use Rattle.lt_journal.specs.RunLines.{held_line, held_in_mode}
use Rattle.lt_journal.proofs.Fitting.{list_more, flat_map-more}
use Rattle.lt_journal.proofs.closing.held_in_set.Goals as goal

pub loop-mode-preserved : goal.loop-mode-preserved
loop-mode-preserved c = λ events tells.
    let script = c.args.script.now in
    let mode = get_or MODES c.loop-mode.mode-index IntentionRead in
    let lock = holding c.args.client c.args.set mode in
    list_more _ _ _ _ _ _
    (c.in_ok-held_line.ensures
    ∙ ap (λ (n : ℕ). c.loop-mode.lines.items ++ held_line lock n) (c.count.ensures script events tells (c.requires.client, c.requires.set)))
    (c.loop-mode.invariant events tells)
    (flat_map-more (held_in_mode (holdings script events) c.args.client c.args.set) MODES c.loop-mode.mode-index IntentionRead (omega arith))

pub returns : goal.returns
returns c = λ events tells.
    let all : c.loop-mode.mode-index ≡ 6 = omega arith in
    c.loop-mode.invariant events tells
    ∙ ap (λ (n : ℕ). c.args.lines.now.items ++ flat_map (held_in_mode (holdings c.args.script.now events) c.args.client c.args.set) (take n MODES)) all
