use Rattle.std.proofs.Common.{refl}
use Rattle.lt_law_ordered.proofs.laws.law_order_rows.Goals as goal

pub returns : goal.returns
returns c = record {
  lock_then_unlock = refl;
  write_in_turn = refl;
  write_kept = refl;
  change_of_mode = refl;
  against_the_order = refl;
  no_clients = refl;
  family_dropped = refl;
  drop_of_another = refl;
  waits_given_up = refl;
  given_up_and_kept = refl;
}
