use Rattle.std.proofs.Common.{◌≡◌, ◌++◌, take, flat_map}
use Rattle.lt_journal.specs.RunLines.{member_words}
use Rattle.lt_modes.specs.declared.mode.TheConstants.{MODES}
use Rattle.lt_journal.proofs.events.words_of_modes.Given as goal

-- the words of the modes so far are written
abbrev pub invariant-loop-mode : goal.invariant-loop-mode
invariant-loop-mode l = l.text ≡ l.fn.text ++ flat_map (member_words l.modes) (take l.mode-index MODES)
