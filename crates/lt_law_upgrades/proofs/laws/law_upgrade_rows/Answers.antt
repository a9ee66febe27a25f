use Rattle.std.proofs.Common.{refl}
use Rattle.lt_modes.specs.Modes.{conflicts}
use Rattle.lt_law_upgrades.proofs.laws.law_upgrade_rows.Goals as goal

pub returns : goal.returns
unfolding conflicts
returns c = record {
  upgrade_in_turn = refl;
  read_to_upgrade = refl;
  changed_while_later = refl;
  tried_again = refl;
  changed_twice = refl;
  given_up_change = refl;
}
