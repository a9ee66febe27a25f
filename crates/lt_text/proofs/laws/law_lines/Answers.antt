use Rattle.lt_text.proofs.TextLemmas.{lines_text}
use Rattle.lt_text.proofs.laws.law_lines.Goals as goal

pub returns : goal.returns
returns c = lines_text
