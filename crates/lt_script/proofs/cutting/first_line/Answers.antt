use Rattle.std.proofs.Common.{sym, ◌∙◌}
use Rattle.lt_text.specs.Text.{lines, cut_at}
use Rattle.lt_text.proofs.TextLemmas.{lines_empty, lines_found, lines_last}
use Rattle.lt_script.proofs.cutting.first_line.Goals as goal

pub returns-then-is_empty-clause-lines : goal.returns-then-is_empty-clause-lines
returns-then-is_empty-clause-lines c = lines_empty c.args.bytes.now (sym c.is_empty.ensures ∙ c.if-is_empty.true)

pub returns-in-Some-clause-lines : goal.returns-in-Some-clause-lines
returns-in-Some-clause-lines c =
    rw (c.trim_return.ensures, c.split_at.ensures.front, c.split_at-in-Some.ensures.back) (lines_found c.args.bytes.now c.in-Some.end (sym c.line_end.ensures ∙ c.in-Some.is))

pub returns-in-None-clause-lines : goal.returns-in-None-clause-lines
unfolding lines cut_at
returns-in-None-clause-lines c =
    rw (c.trim_return-in-None.ensures) (lines_last c.args.bytes.now (sym c.is_empty.ensures ∙ c.if-is_empty.false) (sym c.line_end.ensures ∙ c.in-None.is))
