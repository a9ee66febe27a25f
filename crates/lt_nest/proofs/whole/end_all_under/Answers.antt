use Rattle.std.proofs.Common.{◌∙◌}
use Rattle.lt_nest.proofs.OpenChildren.{under_childless}
use Rattle.lt_nest.proofs.whole.end_all_under.Goals as goal

pub returns-then-childless : goal.returns-then-childless
returns-then-childless c =
    c.end_alone.ensures ∙ under_childless c.args.transactions.now.items c.args.x c.requires.kept c.requires.open (c.requires.childless c.if-childless.true)
