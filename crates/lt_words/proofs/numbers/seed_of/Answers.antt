use Rattle.std.proofs.Common.{sym, ◌∙◌}
use Rattle.lt_words.proofs.NoForm.{seed_parsed}
use Rattle.lt_words.proofs.numbers.seed_of.Goals as goal

pub returns : goal.returns
returns c =
    c.ok.ensures.value
    ∙ seed_parsed c.args.word.now c.parse.result (sym c.is_numeral.ensures ∙ c.if-not-is_numeral.false) c.parse.ensures.value.0
