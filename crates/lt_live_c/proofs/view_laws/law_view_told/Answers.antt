use Rattle.lt_live_c.proofs.ViewOpened.{held_told, locks_told, asked_told, behind_told}
use Rattle.lt_live_c.proofs.CountingOpened.{counts_told}
use Rattle.lt_live_c.proofs.view_laws.law_view_told.Goals as goal

pub returns : goal.returns
returns c = record {
  held = held_told c.law_view.ensures.finds c.law_view.ensures.none;
  locks = locks_told;
  asked = asked_told;
  behind = behind_told;
  counts = counts_told c.law_counts.ensures.all;
}
