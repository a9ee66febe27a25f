-- All rings.
use Rattle.std.proofs.Common.{arith}
use Rattle.lt_mail.proofs.FlushLemmas.{rows_end}
use Rattle.lt_mail.proofs.opening.open.Goals as goal

pub returns : goal.returns
returns c =
    rows_end c.args.nodes c.args.capacity c.loop-from.from c.loop-from.mails.items (omega (arith, c.loop-from.auto.from-end, c.loop-from-test.false))
    c.requires.capacity.0 c.loop-from.invariant
