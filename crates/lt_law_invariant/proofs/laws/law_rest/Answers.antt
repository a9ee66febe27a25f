use Rattle.lt_law_invariant.proofs.laws.law_rest.Goals as goal
use Rattle.lt_law_invariant.proofs.FirstWaiter.{first_waiter_conflicts, holders_are_frozen}
use Rattle.lt_law_invariant.proofs.RowsApart.{barred_by_lines}
use Rattle.lt_law_invariant.proofs.MidMove.{asks_are_led}

pub returns : goal.returns
returns c = record { first = first_waiter_conflicts; lines = barred_by_lines; led = asks_are_led; frozen = holders_are_frozen }
