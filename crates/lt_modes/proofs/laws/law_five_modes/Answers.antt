use Rattle.lt_modes.proofs.laws.law_five_modes.Goals as goal
use Rattle.lt_modes.proofs.FiveModesKept.{table_kept, taking_kept, bars_kept, sixth_by_others, covers_kept, same_kept, none_kept}

pub returns : goal.returns
returns c = record {
  table = table_kept;
  taking = taking_kept;
  bars = bars_kept;
  sixth = sixth_by_others;
  covers = covers_kept;
  same = same_kept;
  none = none_kept;
}
