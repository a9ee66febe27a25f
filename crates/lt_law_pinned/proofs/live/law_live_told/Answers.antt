use Rattle.lt_law_pinned.proofs.LiveCallsOpened.{live_codes_are, live_texts_are, live_words_told, live_refusals_told, live_counts_told, live_ends_told}
use Rattle.lt_law_pinned.proofs.LiveRunsOpened.{live_runs_told, live_shares_told}
use Rattle.lt_law_pinned.proofs.live.law_live_told.Goals as goal

pub returns : goal.returns
returns c = record {
  codes = live_codes_are;
  texts = live_texts_are;
  words = live_words_told;
  refusals = live_refusals_told;
  counts = live_counts_told;
  ends = live_ends_told;
  runs = live_runs_told;
  shares = live_shares_told;
}
