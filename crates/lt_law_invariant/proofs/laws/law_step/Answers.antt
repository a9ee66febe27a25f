use Rattle.lt_law_invariant.proofs.laws.law_step.Goals as goal
use Rattle.lt_law_invariant.proofs.SoundStates.{kept_stays}
use Rattle.lt_law_invariant.proofs.FittingLetters.{letters_fit}

pub returns : goal.returns
returns c = record { moves = kept_stays; letters = letters_fit }
