use Rattle.std.proofs.Common.{◌∙◌, ap, is_some}
use Rattle.lt_words.specs.Grammar.{has_verb}
use Rattle.lt_words.proofs.Counted.{of_one}
use Rattle.lt_words.proofs.command.has_verb.Goals as goal

pub returns-in-len1 : goal.returns-in-len1
returns-in-len1 c =
    c.is_some.ensures
    ∙ ap is_some c.one_word.ensures
    ∙ of_one has_verb c.args.words.now c.verb-item.result c.deref.result.now c.verb-item.is c.deref.ensures c.in-len1.len_at_least c.in-len1.len_below
