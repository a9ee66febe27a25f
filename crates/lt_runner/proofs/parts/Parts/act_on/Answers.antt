-- Commands one after the other.
use Rattle.lt_runner.proofs.TurnLemmas.{grew_join, grew_self}
use Rattle.lt_runner.proofs.parts.Parts.act_on.Goals as goal

pub loop-init : goal.loop-init
loop-init g c = (c.requires, grew_self c.args.self.now)

pub loop-preserved : goal.loop-preserved
loop-preserved g c =
    (c.act_once.ensures.kept, grew_join c.args.self.now c.loop.self c.act_once.new.self c.loop.invariant.1 c.act_once.ensures.grew)

pub returns-then-not-act_once-clause-kept : goal.returns-then-not-act_once-clause-kept
returns-then-not-act_once-clause-kept g c = c.act_once.ensures.kept

pub returns-then-not-act_once-clause-grew : goal.returns-then-not-act_once-clause-grew
returns-then-not-act_once-clause-grew g c =
    grew_join c.args.self.now c.loop.self c.act_once.new.self c.loop.invariant.1 c.act_once.ensures.grew
