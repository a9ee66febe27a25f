use Rattle.std.proofs.Common.{arith}
use Rattle.lt_text.proofs.NumberLemmas.{next_digit}
use Rattle.lt_text.proofs.digits.value.Goals as goal

pub overflow_mul-value : goal.overflow_mul-value
overflow_mul-value c =
    let next = next_digit c.args.word.now c.loop-digit.digit-index 20 c.requires.digits c.requires.few c.loop-digit-test.true in
    omega (arith, next.more, next.small, c.loop-digit.invariant)

pub overflow_add-value : goal.overflow_add-value
overflow_add-value c =
    let next = next_digit c.args.word.now c.loop-digit.digit-index 20 c.requires.digits c.requires.few c.loop-digit-test.true in
    omega (arith, next.more, next.small, c.loop-digit.invariant)

pub loop-digit-preserved : goal.loop-digit-preserved
loop-digit-preserved c =
    let next = next_digit c.args.word.now c.loop-digit.digit-index 20 c.requires.digits c.requires.few c.loop-digit-test.true in
    omega (arith, next.more, c.loop-digit.invariant)
