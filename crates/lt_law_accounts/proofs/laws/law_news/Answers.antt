use Rattle.lt_law_accounts.proofs.laws.law_news.Goals as goal
use Rattle.lt_law_accounts.proofs.NewsLemmas.{begins_kept, changes_kept, sends_kept, spares_kept, keeps_kept, takes_kept, leaves_kept, news_arrive, news_reorder, frozen_at_rest}

pub returns : goal.returns
returns c = record {
  begins = begins_kept;
  changes = changes_kept;
  sends = sends_kept;
  spares = spares_kept;
  keeps = keeps_kept;
  takes = takes_kept;
  leaves = leaves_kept;
  arrives = news_arrive;
  reorders = news_reorder;
  rest = frozen_at_rest;
}
