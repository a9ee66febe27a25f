use Rattle.std.proofs.Common.{◌≡◌, length, rules}
use Rattle.lt_live.specs.Words.{outbox_replies}
use Rattle.lt_live.proofs.Marking.{outbox_grew}
use Rattle.lt_live.proofs.ends.Seat.answer_on.Goals as goal

pub returns-then-not-all-clause-told : goal.returns-then-not-all-clause-told
returns-then-not-all-clause-told c =
    let now : c.len.result ≡ length (outbox_replies c.tell_waiting-all.new.self) = search rules in
    let before : c.len-waited.result ≡ length (outbox_replies c.args.self.now) = search rules in
    outbox_grew c.args.self.now c.tell_waiting-all.new.self c.len.result c.len-waited.result c.tell_waiting-all.ensures.due
    c.tell_waiting-all.ensures.rest.fewer now before
