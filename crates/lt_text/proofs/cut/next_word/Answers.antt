use Rattle.std.proofs.Common.{sym, ◌∙◌}
use Rattle.lt_text.proofs.TextLemmas.{words_none, words_found, words_last, words_empty}
use Rattle.lt_text.proofs.cut.next_word.Goals as goal

pub returns-in_default-clause-words : goal.returns-in_default-clause-words
returns-in_default-clause-words c = words_none c.args.line.now (sym c.word_start.ensures ∙ c.in_default.is)

pub returns-in-Some-word_end-clause-words : goal.returns-in-Some-word_end-clause-words
returns-in-Some-word_end-clause-words c =
    rw (c.split_at-in-Some-word_end.ensures.front, c.split_at-in-Some-word_end-2.ensures.back)
    (words_found c.args.line.now c.in-Some.start c.split_at.result.1.now c.in-Some-word_end.end (sym c.word_start.ensures ∙ c.in-Some.is) c.split_at.ensures.back (sym c.word_end.ensures ∙ c.in-Some-word_end.is))

pub returns-in-None-clause-words : goal.returns-in-None-clause-words
returns-in-None-clause-words c =
    rw words_empty (words_last c.args.line.now c.in-Some.start c.split_at.result.1.now (sym c.word_start.ensures ∙ c.in-Some.is) c.split_at.ensures.back (sym c.word_end.ensures ∙ c.in-None.is))
