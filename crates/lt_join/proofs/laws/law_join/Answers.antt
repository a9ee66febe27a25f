-- Each of the laws.
use Rattle.lt_join.proofs.NodeTexts.{parts_are_read}
use Rattle.lt_join.proofs.AllTexts.{joins_to_run}
use Rattle.lt_join.proofs.Inputs.{joined_is_accepted}
use Rattle.lt_join.proofs.Refusals.{join_refuses}
use Rattle.lt_join.proofs.Written.{parts_are_written}
use Rattle.lt_join.proofs.Worked.{join_rows}
use Rattle.lt_join.proofs.laws.law_join.Goals as goal

pub returns : goal.returns
returns c = record {
  written = parts_are_written;
  parts = parts_are_read;
  text = joins_to_run;
  accepted = joined_is_accepted;
  refused = join_refuses;
  worked = join_rows;
}
