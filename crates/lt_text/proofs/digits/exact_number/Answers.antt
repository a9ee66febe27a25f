use Rattle.std.proofs.Common.{sym, ◌∙◌, arith}
use Rattle.lt_text.proofs.NumberLemmas.{decimal_value}
use Rattle.lt_text.proofs.digits.exact_number.Goals as goal

pub returns-clause-found : goal.returns-clause-found
returns-clause-found c =
    rw c.value-value.ensures.value
    (decimal_value c.args.word.now (sym c.is_empty.ensures ∙ c.if-is_empty.false) c.if-word-gt20.false (sym c.are_digits.ensures ∙ c.if-not-are_digits.false) (sym c.has_leading_zero.ensures ∙ c.if-has_leading_zero.false) (omega arith))
