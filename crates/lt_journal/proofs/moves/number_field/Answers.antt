use Rattle.std.proofs.Common.{arith}
use Rattle.lt_journal.proofs.MoveLines.{number_first}
use Rattle.lt_journal.proofs.moves.number_field.Goals as goal

pub returns-then-is_numeral : goal.returns-then-is_numeral
returns-then-is_numeral c =
    let some = c.is_numeral.ensures.some c.if-is_numeral.true in
    number_first c.args.words.now c.first_digits-number.result.1 (c.first_digits-number.result.0, c.split_at.result.1) c.first_digits-number.ensures c.if-count-words.true
    c.if-words-count-eq32.true (λ none. omega (arith, some, none)) (c.is_numeral.ensures.leading c.if-is_numeral.true) c.split_at.ensures.back
