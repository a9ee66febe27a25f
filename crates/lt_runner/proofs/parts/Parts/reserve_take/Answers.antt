-- Room in the node and the letter, and then the rest.
use Rattle.lt_runner.proofs.ChoiceLemmas.{take_fits}
use Rattle.lt_runner.proofs.KeptLemmas.{seen_join}
use Rattle.lt_runner.proofs.parts.Parts.reserve_take.Goals as goal

pub reserve_for_hand-requires-clause-kept : goal.reserve_for_hand-requires-clause-kept
reserve_for_hand-requires-clause-kept c = c.requires.kept

pub reserve_for_hand-requires-clause-fits : goal.reserve_for_hand-requires-clause-fits
reserve_for_hand-requires-clause-fits c = take_fits c.args.self.now c.requires.chosen

pub returns-in_err-reserve_for_hand-clause-kept : goal.returns-in_err-reserve_for_hand-clause-kept
returns-in_err-reserve_for_hand-clause-kept c = c.reserve_for_hand.ensures.kept

pub returns-in_err-reserve_for_hand-clause-seen : goal.returns-in_err-reserve_for_hand-clause-seen
returns-in_err-reserve_for_hand-clause-seen c = c.reserve_for_hand.ensures.seen

pub reserve_rest-requires : goal.reserve_rest-requires
reserve_rest-requires c = c.reserve_for_hand.ensures.kept

pub returns-clause-kept : goal.returns-clause-kept
returns-clause-kept c = c.reserve_rest.ensures.kept

pub returns-clause-seen : goal.returns-clause-seen
returns-clause-seen c =
    seen_join c.args.self.now c.reserve_for_hand.new.self c.reserve_rest.new.self c.reserve_for_hand.ensures.seen c.reserve_rest.ensures.seen
