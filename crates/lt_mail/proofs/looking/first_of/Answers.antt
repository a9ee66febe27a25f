-- The one ring, and then the others.
use Rattle.lt_mail.proofs.LookLemmas.{looks_join}
use Rattle.lt_mail.proofs.AloneLemmas.{found_here}
use Rattle.lt_mail.proofs.looking.first_of.Goals as goal

pub returns-then-look_at_other-clause-some : goal.returns-then-look_at_other-clause-some
returns-then-look_at_other-clause-some c = c.look_at_other.ensures.there c.if-look_at_other.true

pub returns-then-look_at_other-clause-others : goal.returns-then-look_at_other-clause-others
returns-then-look_at_other-clause-others c =
    found_here c.args.at c.args.me c.args.ins.now c.look_at_other.new.ins c.requires c.look_at_other.ensures.others

pub returns-clause-looked : goal.returns-clause-looked
returns-clause-looked c =
    looks_join c.args.ins.now c.look_at_other.new.ins c.first_sender.new.ins c.look_at_other.ensures.looked c.first_sender.ensures.looked
