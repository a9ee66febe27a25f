use Rattle.std.proofs.Common.{◌≡◌, ◌+◌, List, ◌∷◌, drop, get_or, sym, ap, ◌∙◌, arith, add-one, drop-cons}
use Rattle.lt_modes.specs.declared.mode.Mode.{Mode}
use Rattle.lt_modes.specs.declared.mode.Mode.TheVariants.{IntentionRead}
use Rattle.lt_journal.specs.Grammar.{with_words, words_left}
use Rattle.lt_modes.specs.declared.mode.TheConstants.{MODES}
use Rattle.lt_journal.proofs.meaning.modes.Goals as goal

pub loop-mode-preserved : goal.loop-mode-preserved
loop-mode-preserved c =
    let k = c.loop-mode.mode-index in
    let next : drop k MODES ≡ get_or MODES k IntentionRead ∷ drop (k + 1) MODES = rw add-one (drop-cons MODES k IntentionRead (omega arith)) in
    sym (c.past_mode.ensures (drop (k + 1) MODES))
    ∙ ap (λ (modes : List Mode). with_words modes c.loop-mode.found (words_left c.loop-mode.rest)) (sym next)
    ∙ c.loop-mode.invariant
