use Rattle.lt_law_accounts.proofs.laws.law_account.Goals as goal
use Rattle.lt_law_accounts.proofs.AccountAsks.{ticks_kept, ages_kept, asks_kept, rests_kept, freezes_kept, reorders_kept}
use Rattle.lt_law_accounts.proofs.AccountGrants.{grants_kept, unlocks_kept, drops_kept}
use Rattle.lt_law_accounts.proofs.AccountAnswers.{answers_kept, delivers_kept, voids_kept, voids_copies_kept}
use Rattle.lt_law_accounts.proofs.AccountTells.{stale_kept, tells_kept}
use Rattle.lt_law_accounts.proofs.AccountApplies.{applies_kept, settles_kept, arrives_kept}
use Rattle.lt_law_accounts.proofs.AccountDesk.{owes_kept}

pub returns : goal.returns
returns c = record {
  ticks = ticks_kept;
  ages = ages_kept;
  asks = asks_kept;
  grants = grants_kept;
  unlocks = unlocks_kept;
  drops = drops_kept;
  answers = answers_kept;
  owes = owes_kept;
  delivers = delivers_kept;
  voids = voids_kept;
  voids_copies = voids_copies_kept;
  applies = applies_kept;
  stale = stale_kept;
  tells = tells_kept;
  settles = settles_kept;
  arrives = arrives_kept;
  rests = rests_kept;
  freezes = freezes_kept;
  reorders = reorders_kept;
}
