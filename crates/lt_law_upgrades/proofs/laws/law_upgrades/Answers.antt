use Rattle.lt_law_upgrades.proofs.UpgradeRest.{upgrading_finish, upgrading_release, holder_has_desk, change_is_next, no_void_change}
use Rattle.lt_law_upgrades.proofs.MayUpgrade.{ordered_is_upgrading}
use Rattle.lt_law_upgrades.proofs.laws.law_upgrades.Goals as goal

pub returns : goal.returns
returns c = record {
  finish = upgrading_finish;
  release = upgrading_release;
  desk = holder_has_desk;
  next = change_is_next;
  void = no_void_change;
  ordered = ordered_is_upgrading;
}
