use Rattle.std.proofs.Common.{◌<◌, rules}
use Rattle.lt_table.proofs.KnownLemmas.{with_bit, without_bit}
use Rattle.lt_table.proofs.mask.marked.Goals as goal

pub returns-then-has-clause-own : goal.returns-then-has-clause-own
returns-then-has-clause-own c = λ below. (with_bit c.args.mask c.args.number c.args.has below c.if-has.true).0

pub returns-then-has-clause-others : goal.returns-then-has-clause-others
returns-then-has-clause-others c = λ i small other.
    let below : c.args.number < 64 = search rules in
    (with_bit c.args.mask c.args.number c.args.has below c.if-has.true).1 i other

pub returns-else-has-clause-own : goal.returns-else-has-clause-own
returns-else-has-clause-own c = λ below. (without_bit c.args.mask c.args.number c.args.has below c.if-has.false).0

pub returns-else-has-clause-others : goal.returns-else-has-clause-others
returns-else-has-clause-others c = λ i small other.
    let below : c.args.number < 64 = search rules in
    (without_bit c.args.mask c.args.number c.args.has below c.if-has.false).1 i small other
