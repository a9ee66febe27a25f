use Rattle.std.proofs.Common.{◌≡◌, drop}
use Rattle.lt_modes.specs.Modes.{no_modes, modes_in_order}
use Rattle.lt_text.specs.Text.{fields}
use Rattle.lt_journal.specs.Grammar.{with_words, words_left}
use Rattle.lt_modes.specs.declared.mode.TheConstants.{MODES}
use Rattle.lt_journal.proofs.meaning.modes.Given as goal

-- the modes and words that are left add to the modes found what all of them add to none
abbrev pub invariant-loop-mode : goal.invariant-loop-mode
invariant-loop-mode l = with_words (drop l.mode-index MODES) l.found (words_left l.rest) ≡ with_words modes_in_order no_modes (fields l.words)
