use Rattle.lt_law_pinned.proofs.WholeTexts.{whole_is}
use Rattle.lt_law_pinned.proofs.LimitsOpened.{drawn_is}
use Rattle.lt_law_pinned.proofs.laws.law_texts.Goals as goal

pub returns-clause-whole : goal.returns-clause-whole
returns-clause-whole c = whole_is

pub returns-clause-drawn : goal.returns-clause-drawn
returns-clause-drawn c = drawn_is
