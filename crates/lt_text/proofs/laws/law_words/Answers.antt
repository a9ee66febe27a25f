use Rattle.lt_text.proofs.TextLemmas.{words_spaced}
use Rattle.lt_text.proofs.laws.law_words.Goals as goal

pub returns : goal.returns
returns c = words_spaced
