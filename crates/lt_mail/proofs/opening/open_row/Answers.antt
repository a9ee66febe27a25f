-- The rings from one node.
use Rattle.std.proofs.Common.{arith}
use Rattle.lt_mail.proofs.OpeningLemmas.{one_more_at, row_ends}
use Rattle.lt_mail.proofs.opening.open_row.Goals as goal

pub loop-to-preserved : goal.loop-to-preserved
loop-to-preserved c =
    one_more_at c.args.nodes c.args.capacity c.args.from c.loop-to.to c.from.result c.from-in-loop-to.result c.loop-to.mails.items
    c.add_link.new.mails.items c.from.ensures c.from-in-loop-to.ensures c.loop-to.invariant c.in_ok-add_link.ensures

pub returns : goal.returns
returns c =
    row_ends c.args.nodes c.args.capacity c.args.from c.loop-to.to c.loop-to.mails.items
    (omega (arith, c.loop-to.auto.to-end, c.loop-to-test.false)) c.loop-to.invariant
