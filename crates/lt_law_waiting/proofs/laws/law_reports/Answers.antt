use Rattle.lt_law_waiting.proofs.Reports.{waits_are_told, cycles_are_rings, rings_are_told, no_cycle_is_told, ends_are_told, ends_are_all}
use Rattle.lt_law_waiting.proofs.laws.law_reports.Goals as goal

pub returns : goal.returns
returns c = record {
  pairs = waits_are_told;
  cycles = cycles_are_rings;
  rings = rings_are_told;
  no_cycle = no_cycle_is_told;
  ends = ends_are_told;
  all = ends_are_all;
}
