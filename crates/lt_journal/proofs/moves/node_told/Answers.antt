use Rattle.std.proofs.Common.{◌∙◌, sym}
use Rattle.lt_journal.proofs.MoveLines.{only_number}
use Rattle.lt_journal.proofs.moves.node_told.Goals as goal

pub returns-then-is_numeral : goal.returns-then-is_numeral
returns-then-is_numeral c =
    c.node_below.ensures
    ∙ sym (only_number c.args.script.now c.args.words.now c.first_digits-number.result.1 c.first_digits-number.result.0 c.first_digits-number.ensures c.if-count-words.true
    (c.is_numeral.ensures.some c.if-is_numeral.true) (c.is_numeral.ensures.leading c.if-is_numeral.true))
