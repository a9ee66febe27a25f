-- Room in the node, and then the rest.
use Rattle.std.proofs.Common.{◌∙◌}
use Rattle.lt_runner.proofs.KeptLemmas.{seen_join}
use Rattle.lt_runner.proofs.parts.Parts.reserve_act.Goals as goal

pub reserve_for_act-requires-clause-kept : goal.reserve_for_act-requires-clause-kept
reserve_for_act-requires-clause-kept c = c.requires.kept

pub reserve_for_act-requires-clause-chosen : goal.reserve_for_act-requires-clause-chosen
reserve_for_act-requires-clause-chosen c = c.requires.chosen

pub returns-in_err-reserve_for_act-clause-kept : goal.returns-in_err-reserve_for_act-clause-kept
returns-in_err-reserve_for_act-clause-kept c = c.reserve_for_act.ensures.kept

pub returns-in_err-reserve_for_act-clause-seen : goal.returns-in_err-reserve_for_act-clause-seen
returns-in_err-reserve_for_act-clause-seen c = c.reserve_for_act.ensures.seen

pub returns-in_err-reserve_for_act-clause-hand : goal.returns-in_err-reserve_for_act-clause-hand
returns-in_err-reserve_for_act-clause-hand c = c.reserve_for_act.ensures.hand

pub reserve_rest-requires : goal.reserve_rest-requires
reserve_rest-requires c = c.reserve_for_act.ensures.kept

pub returns-clause-kept : goal.returns-clause-kept
returns-clause-kept c = c.reserve_rest.ensures.kept

pub returns-clause-seen : goal.returns-clause-seen
returns-clause-seen c =
    seen_join c.args.self.now c.reserve_for_act.new.self c.reserve_rest.new.self c.reserve_for_act.ensures.seen c.reserve_rest.ensures.seen

pub returns-clause-hand : goal.returns-clause-hand
returns-clause-hand c = c.reserve_rest.ensures.hand ∙ c.reserve_for_act.ensures.hand
