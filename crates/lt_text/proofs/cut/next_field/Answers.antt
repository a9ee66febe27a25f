use Rattle.std.proofs.Common.{sym, ◌∙◌}
use Rattle.lt_text.proofs.TextLemmas.{fields_found, fields_none}
use Rattle.lt_text.proofs.cut.next_field.Goals as goal

pub returns-in-Some : goal.returns-in-Some
returns-in-Some c =
    rw (c.split_at.ensures.front, c.split_at-in-Some.ensures.back) (fields_found c.args.line.now c.in-Some.end (sym c.first_space.ensures ∙ c.in-Some.is))

pub returns-in-None : goal.returns-in-None
returns-in-None c = fields_none c.args.line.now (sym c.first_space.ensures ∙ c.in-None.is)
