-- Where a flush stops.
use Rattle.lt_mail.proofs.LookLemmas.{flushes_stop}
use Rattle.lt_mail.proofs.mail.Mail.flush.Goals as goal

pub returns-clause-stops : goal.returns-clause-stops
returns-clause-stops c = flushes_stop c.args.self.now c.flush_on.new.self c.args.to c.flush_on.ensures.lane
