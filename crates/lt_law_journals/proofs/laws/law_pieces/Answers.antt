use Rattle.lt_law_journals.proofs.Feeds.{fed_pieces}
use Rattle.lt_law_journals.proofs.laws.law_pieces.Goals as goal

pub returns : goal.returns
returns c = λ script feed pieces. fed_pieces script pieces feed
