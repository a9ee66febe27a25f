use Rattle.std.proofs.Common.{Some, None}
use Rattle.lt_node.proofs.FamilyLemmas.{end_fits, end_leaves}
use Rattle.lt_node.proofs.ending.end.Goals as goal

pub finish-requires-clause-fits : goal.finish-requires-clause-fits
finish-requires-clause-fits c = end_fits None c.args.stamp c.args.core.now c.args.out.now c.requires.send

pub act-requires-clause-fits : goal.act-requires-clause-fits
act-requires-clause-fits c = end_fits (Some c.in-Some.client) c.args.stamp c.args.core.now c.args.out.now c.requires.send

pub returns-in-None-clause-send : goal.returns-in-None-clause-send
returns-in-None-clause-send c = λ more. end_leaves None c.args.stamp c.args.core.now c.finish.new.self c.args.out.now c.finish.new.out more c.finish.ensures.does

pub returns-in-Some-clause-send : goal.returns-in-Some-clause-send
returns-in-Some-clause-send c = λ more. end_leaves (Some c.in-Some.client) c.args.stamp c.args.core.now c.act.new.self c.args.out.now c.act.new.out more c.act.ensures.does
