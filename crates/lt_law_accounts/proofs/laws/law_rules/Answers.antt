use Rattle.lt_law_accounts.proofs.Drawing.{drawn_by_first}
use Rattle.lt_law_accounts.proofs.Entering.{holder_enters, other_enters}
use Rattle.lt_law_accounts.proofs.Parking.{parks_behind, same_freeze, later_freeze}
use Rattle.lt_law_accounts.proofs.laws.law_rules.Goals as goal

pub returns : goal.returns
returns c = record {
  draws = drawn_by_first;
  holder = holder_enters;
  other = other_enters;
  parks = parks_behind;
  same_freeze = same_freeze;
  later_freeze = later_freeze;
}
