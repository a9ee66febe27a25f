use Rattle.lt_modes.specs.Modes.{conflicts}
use Rattle.std.proofs.Common.{refl}
use Rattle.lt_law_waiting.proofs.laws.law_report_rows.Goals as goal

pub returns : goal.returns
unfolding conflicts
returns c = record {
  changes = refl;
  kept = refl;
  parked = refl;
  ring_behind_least = refl;
  long_walk = refl;
  ring_of_three = refl;
  ring_of_four = refl;
  ring_and_ended = refl;
  void_in_the_way = refl;
}
