-- What the two ends did, in words of the mails.
use Rattle.lt_mail.proofs.LookLemmas.{gives_given, sees_known}
use Rattle.lt_mail.proofs.RingLemmas.{met_first, met_stops}
use Rattle.lt_mail.proofs.both_ends.beside_at.Goals as goal

pub returns-clause-given : goal.returns-clause-given
returns-clause-given c = gives_given c.args.out.now c.meet.new.out c.args.to c.meet.ensures.out

pub returns-clause-first : goal.returns-clause-first
returns-clause-first c = met_first c.meet.new.out c.meet.new.into c.args.to c.args.from c.meet.ensures.met

pub returns-clause-stops : goal.returns-clause-stops
returns-clause-stops c = met_stops c.meet.new.out c.meet.new.into c.args.to c.args.from c.meet.ensures.met

pub returns-clause-known : goal.returns-clause-known
returns-clause-known c = sees_known c.args.into.now c.meet.new.into c.args.from c.meet.ensures.into
