use Rattle.std.proofs.Common.{◌≡◌, ◌∙◌, ◌++◌, ap, ℕ, arith, get_or, take, flat_map}
use Rattle.lt_modes.specs.declared.mode.Mode.TheVariants.{IntentionRead}
use Rattle.lt_nest_lines.specs.Written.{held_count_line, held_text_in_mode}
use Rattle.lt_modes.specs.declared.mode.TheConstants.{MODES}
use Rattle.lt_nest_lines.proofs.Pieces.{piece_more, flat_map-more}
use Rattle.lt_nest_lines.proofs.closing.push_held_in_set.Goals as goal

pub loop-mode-preserved : goal.loop-mode-preserved
loop-mode-preserved c =
    let d = c.args.input.now in
    let mode = get_or MODES c.loop-mode.mode-index IntentionRead in
    piece_more _ _ _ _ _ _
    (c.in_ok-push_held_line.ensures
    ∙ ap (λ (n : ℕ). c.loop-mode.out.items ++ held_count_line d c.args.transaction c.args.set mode n) c.held-count.ensures)
    c.loop-mode.invariant
    (flat_map-more (held_text_in_mode d c.args.play.now c.args.transaction c.args.set) MODES c.loop-mode.mode-index IntentionRead (omega arith))

pub returns : goal.returns
returns c =
    let all : c.loop-mode.mode-index ≡ 6 = omega arith in
    c.loop-mode.invariant
    ∙ ap (λ (n : ℕ). c.args.out.now.items ++ flat_map (held_text_in_mode c.args.input.now c.args.play.now c.args.transaction c.args.set) (take n MODES)) all
