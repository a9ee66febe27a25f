-- Each outbox stops where it is empty or its ring is full.
use Rattle.lt_mail.proofs.FlushLemmas.{all_flushed, all_given, all_first}
use Rattle.lt_mail.proofs.mail.Mail.flush_all.Goals as goal

pub returns-clause-given : goal.returns-clause-given
returns-clause-given c =
    all_given c.args.self.now
    (record { me = c.args.self.now.me; outs = c.pass.new.outs; ins = c.args.self.now.ins; waiting = c.pass.new.waiting }) c.pass.ensures

pub returns-clause-first : goal.returns-clause-first
returns-clause-first c =
    all_first c.args.self.now
    (record { me = c.args.self.now.me; outs = c.pass.new.outs; ins = c.args.self.now.ins; waiting = c.pass.new.waiting }) c.pass.ensures

pub returns-clause-stops : goal.returns-clause-stops
returns-clause-stops c =
    all_flushed c.args.self.now
    (record { me = c.args.self.now.me; outs = c.pass.new.outs; ins = c.args.self.now.ins; waiting = c.pass.new.waiting }) c.pass.ensures
