use Rattle.lt_modes.proofs.laws.law_modes.Goals as goal
use Rattle.lt_modes.proofs.ModeAlgebra.{conflicts-sym, each_barred, union_has_both, bars_by_table, covers_by_table, union_bars_both, below_itself, below_in_turn, union_below, below_with_more, clear_both_ways, clear_below, covered_is_clear, copy_is_not_taking}

pub returns : goal.returns
returns c = record {
  symmetric = conflicts-sym;
  each_barred = each_barred;
  union = union_has_both;
  bars = bars_by_table;
  covers = covers_by_table;
  union_bars = union_bars_both;
  below_itself = below_itself;
  below_in_turn = below_in_turn;
  union_below = union_below;
  below_with_more = below_with_more;
  clear_both_ways = clear_both_ways;
  clear_below = clear_below;
  covered_is_clear = covered_is_clear;
  copy_is_not_taking = copy_is_not_taking;
}
