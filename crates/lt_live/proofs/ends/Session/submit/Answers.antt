-- One command more was submitted.
use Rattle.lt_live.specs.Words.{submitted}
use Rattle.lt_live.proofs.InHand.{one_more}
use Rattle.lt_live.proofs.ends.Session.submit.Goals as goal

pub invariant_of-self-clause-asks : goal.invariant_of-self-clause-asks
invariant_of-self-clause-asks c =
    one_more c.args.self.now.script c.args.self.now.client c.args.command (submitted c.args.self.now) _ c.args.self.now.asks c.requires.targets c.requires.modes
    c.in-Ok.ensures.ok.0
