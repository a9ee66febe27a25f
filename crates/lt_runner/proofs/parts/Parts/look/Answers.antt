-- A letter that is taken leaves the outboxes as they are.
use Rattle.lt_runner.proofs.KeptLemmas.{seen_join}
use Rattle.lt_runner.proofs.TurnLemmas.{flushed_later}
use Rattle.lt_runner.proofs.parts.Parts.look.Goals as goal

pub returns-then-is_none-clause-seen : goal.returns-then-is_none-clause-seen
returns-then-is_none-clause-seen c = seen_join c.args.self.now c.flush.new.self c.fill_hand.new.self c.flush.ensures.seen c.fill_hand.ensures.seen

pub returns-then-is_none-clause-flushed : goal.returns-then-is_none-clause-flushed
returns-then-is_none-clause-flushed c = flushed_later c.flush.new.self c.fill_hand.new.self c.fill_hand.ensures.outs c.flush.ensures.flushed
