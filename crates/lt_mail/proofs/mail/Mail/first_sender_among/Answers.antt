-- What was looked at, in words of the mail.
use Rattle.lt_mail.proofs.LookLemmas.{all_looked, none_known}
use Rattle.lt_mail.proofs.mail.Mail.first_sender_among.Goals as goal

pub returns-in-Some-clause-known : goal.returns-in-Some-clause-known
returns-in-Some-clause-known c =
    (all_looked c.args.self.now c.look.new.self c.look.ensures.others.0 c.look.ensures.others.1 c.look.ensures.others.2 c.look.ensures.looked).known

pub returns-in-None-clause-none : goal.returns-in-None-clause-none
returns-in-None-clause-none c = none_known c.look.new.self c.in-None.ensures.none

pub returns-in-None-clause-known : goal.returns-in-None-clause-known
returns-in-None-clause-known c =
    (all_looked c.args.self.now c.look.new.self c.look.ensures.others.0 c.look.ensures.others.1 c.look.ensures.others.2 c.look.ensures.looked).known
