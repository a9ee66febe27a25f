use Rattle.lt_law_plays.proofs.laws.law_tokens.Goals as goal
use Rattle.lt_law_plays.proofs.TokenHistory.{token_stands, token_came}

pub returns : goal.returns
returns c = record { stands = token_stands; came = token_came }
