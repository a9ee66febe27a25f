-- Nothing follows a letter.
use Rattle.lt_runner.proofs.TurnLemmas.{grew_self}
use Rattle.lt_runner.proofs.parts.Parts.go_on.Goals as goal

pub act_on-requires : goal.act_on-requires
act_on-requires g c = (c.type_bounds.sync-G, c.requires)

pub returns-in-Act-clause-kept : goal.returns-in-Act-clause-kept
returns-in-Act-clause-kept g c = c.act_on.ensures.kept

pub returns-in-Act-clause-grew : goal.returns-in-Act-clause-grew
returns-in-Act-clause-grew g c = c.act_on.ensures.grew

pub returns-in_default : goal.returns-in_default
returns-in_default g c = record { kept = c.requires; grew = grew_self c.args.self.now }
