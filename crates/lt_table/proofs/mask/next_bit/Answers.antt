use Rattle.std.proofs.Common.{◌<◌, rules}
use Rattle.lt_table.proofs.KnownLemmas.{next_found, next_none}
use Rattle.lt_table.proofs.mask.next_bit.Goals as goal

pub returns-then-left-eq0-clause-none : goal.returns-then-left-eq0-clause-none
returns-then-left-eq0-clause-none c =
    let below : c.args.from < 64 = search rules in
    next_none c.args.mask c.args.from below c.if-left-eq0.true

pub returns-clause-some : goal.returns-clause-some
returns-clause-some c =
    let below : c.args.from < 64 = search rules in
    next_found c.args.mask c.args.from below c.ranges.mask.fits c.if-left-eq0.false
