use Rattle.lt_law_invariant.proofs.laws.law_ledger_effects.Goals as goal
use Rattle.lt_law_invariant.proofs.CopyService.{copy_service_keeps}
use Rattle.lt_law_invariant.proofs.TakeToken.{hand_over_keeps}

pub returns : goal.returns
returns c = record { copy = copy_service_keeps; hand_over = hand_over_keeps }
