use Rattle.std.proofs.Common.{◌≡◌, ◌∙◌, ◌++◌, ap, sym, ℕ, List, arith, take, flat_map}
use Rattle.lt_modes.specs.declared.mode.Mode.TheVariants.{IntentionRead}
use Rattle.lt_journal.specs.RunLines.{member_words}
use Rattle.lt_modes.specs.declared.mode.TheConstants.{MODES}
use Rattle.lt_journal.proofs.Written.{words_kept}
use Rattle.lt_journal.proofs.Fitting.{list_more, flat_map-more}
use Rattle.lt_journal.proofs.events.words_of_modes.Goals as goal

pub loop-mode-preserved : goal.loop-mode-preserved
loop-mode-preserved c =
    list_more _ _ _ _ _ _ c.in_ok-word_of_member.ensures c.loop-mode.invariant
    (flat_map-more (member_words c.args.modes) MODES c.loop-mode.mode-index IntentionRead (omega arith))

pub returns : goal.returns
returns c =
    let all : c.loop-mode.mode-index ≡ 6 = omega arith in
    c.loop-mode.invariant
    ∙ ap (λ (n : ℕ). c.args.text.now ++ flat_map (member_words c.args.modes) (take n MODES)) all
    ∙ ap (λ (t : List ℕ). c.args.text.now ++ t) (sym (words_kept c.args.modes (sym c.if-is_empty.ensures)))
