-- How many visits a worker makes.
use Rattle.std.proofs.Common.{◌≤◌, ◌+◌, ◌*◌, ℕ}
use Rattle.lt_threads.specs.declared.visits.Visits.{Visits}
use Rattle.lt_threads.specs.Visits.{most_vain, most_idle, most_moved}

-- so far a worker has made no more visits than it may
pub record AreWithin (count patience : ℕ) (v : Visits) : Type 0 where
  pub made : v.made ≤ v.moved * most_idle count patience + (v.refused + v.vain)
  pub moved : v.moved ≤ most_moved count
  pub refused : v.refused ≤ patience
  pub vain : v.vain ≤ most_vain count patience
