use Rattle.lt_law_accounts.proofs.laws.law_accounts.Goals as goal
use Rattle.lt_law_accounts.proofs.AccountApplies.{hold_clear}
use Rattle.lt_law_accounts.proofs.AccountPlay.{first_accounts, clear_stays, any_order, from_the_start}

pub returns : goal.returns
returns c = record { first = first_accounts; held = hold_clear; clear = clear_stays; any_order = any_order; from_the_start = from_the_start }
