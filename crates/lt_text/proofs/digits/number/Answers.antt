use Rattle.std.proofs.Common.{sym, ◌∙◌, arith}
use Rattle.lt_text.proofs.NumberLemmas.{few_digits}
use Rattle.lt_text.proofs.digits.number.Goals as goal

pub overflow_cast-result : goal.overflow_cast-result
overflow_cast-result c =
    omega (arith, c.value.ensures.value, few_digits c.args.word.now 9 (sym c.are_digits.ensures ∙ c.if-not-are_digits.false) c.if-word-gt9.false)
