-- A letter that is taken leaves the outboxes as they are.
use Rattle.lt_mail.proofs.TellingLemmas.{outs_given, tells_later}
use Rattle.lt_runner.proofs.KeptLemmas.{seen_join}
use Rattle.lt_runner.proofs.TurnLemmas.{flushed_later}
use Rattle.lt_runner.proofs.parts.Parts.look_telling.Goals as goal

pub returns-then-is_none-clause-seen : goal.returns-then-is_none-clause-seen
returns-then-is_none-clause-seen c =
    seen_join c.args.self.now c.flush_telling-sent.new.self c.fill_hand.new.self c.flush_telling-sent.ensures.seen c.fill_hand.ensures.seen

pub returns-then-is_none-clause-flushed : goal.returns-then-is_none-clause-flushed
returns-then-is_none-clause-flushed c =
    flushed_later c.flush_telling-sent.new.self c.fill_hand.new.self c.fill_hand.ensures.outs c.flush_telling-sent.ensures.flushed

pub returns-then-is_none-clause-sent : goal.returns-then-is_none-clause-sent
returns-then-is_none-clause-sent c =
    tells_later c.flush_telling-sent.result c.args.self.now.mail c.flush_telling-sent.new.self.mail c.fill_hand.new.self.mail c.flush_telling-sent.ensures.sent
    (outs_given c.flush_telling-sent.new.self.mail c.fill_hand.new.self.mail c.fill_hand.ensures.outs)
