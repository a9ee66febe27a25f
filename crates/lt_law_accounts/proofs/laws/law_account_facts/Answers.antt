use Rattle.lt_law_accounts.proofs.laws.law_account_facts.Goals as goal
use Rattle.lt_law_accounts.proofs.AccountPlay.{owed_are_on_way, on_way_are_owed, tell_keeps_waiting, twice_is_once, record_bounds_held}

pub returns : goal.returns
returns c = record {
  owed = owed_are_on_way;
  on_way = on_way_are_owed;
  told = tell_keeps_waiting;
  twice = twice_is_once;
  bound = record_bounds_held;
}
