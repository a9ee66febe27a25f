use Rattle.std.proofs.Common.{sym, ◌∙◌}
use Rattle.lt_journal.proofs.FirstBytes.{no_word, other_word}
use Rattle.lt_journal.proofs.splitting.is_journal_line.Goals as goal

pub returns-then-is_empty : goal.returns-then-is_empty
returns-then-is_empty c = no_word c.args.line.now (sym c.is_empty.ensures ∙ c.if-is_empty.true)

pub returns-then-first-ne9 : goal.returns-then-first-ne9
returns-then-first-ne9 c =
    other_word c.args.line.now (sym c.is_empty.ensures ∙ c.if-is_empty.false) c.if-first-ne106.true c.if-first-ne32.true c.if-first-ne9.true
