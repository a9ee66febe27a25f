use Rattle.lt_law_lines.proofs.KeptLines.{lines_kept_in_runs, lines_tell_held, holdings_are_lawful, lines_tell_waits, first_waiter_by_lines}
use Rattle.lt_law_lines.proofs.OwnerRuns.{lines_tell_owners}
use Rattle.lt_law_lines.proofs.laws.law_lines_tell.Goals as goal

pub returns : goal.returns
returns c = record {
  kept = lines_kept_in_runs;
  held = lines_tell_held;
  lawful = holdings_are_lawful;
  waits = lines_tell_waits;
  owners = lines_tell_owners;
  first = first_waiter_by_lines;
}
