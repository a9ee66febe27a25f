-- The letter waits at the end of its outbox.
use Rattle.std.proofs.Common.{refl}
use Rattle.lt_mail.proofs.FlushLemmas.{put_changes}
use Rattle.lt_mail.proofs.mail.Mail.put_on.Goals as goal

pub returns-clause-lane : goal.returns-clause-lane
returns-clause-lane c =
    put_changes c.args.self.now _ (record { to = c.args.to; letter = c.args.letter }) c.requires.peer refl refl refl c.push_back_reserved.ensures.items
