-- How many visits a worker makes.
use Rattle.std.specs.Prelude.{◌≡◌, ◌<◌, ◌≤◌, ◌+◌, ◌-◌, ◌*◌, ◌^◌, ◌⊎◌, ◌==◌, if◌then◌else◌, ℕ, length}
use Rattle.lt_spec.specs.declared.moves.TheConstants.{MAX_MOVES_OF_SERVICE}
use Rattle.lt_pool.specs.PoolData.{PoolData}
use Rattle.lt_pool.specs.Rule.{ContinuesAt}
use Rattle.lt_runner.specs.declared.parts.Parts.{Parts}
use Rattle.lt_runner.specs.Kept.{Grew}
use Rattle.lt_threads.specs.declared.visits.Visits.{Visits}
use Rattle.lt_threads.specs.declared.worker.Worker.{Worker}

abbrev pub no_visits : Visits
no_visits = record { made = 0; moved = 0; refused = 0; vain = 0 }

-- after one that made a move
abbrev pub after_move : Visits → Visits
after_move v = record { made = v.made + 1; moved = v.moved + 1; refused = 0; vain = 0 }

-- after one at which another worker had the node
abbrev pub after_refused : Visits → Visits
after_refused v = record v { made = v.made + 1; refused = v.refused + 1 }

-- after one of a node that made no move
abbrev pub after_vain : Visits → Visits
after_vain v = record v { made = v.made + 1; vain = v.vain + 1 }

-- after one that made so many moves
abbrev pub after_moves : ℕ → Visits → Visits
after_moves moves v = if moves == 0 then after_vain v else after_move v

-- how many visits a worker of so many nodes makes at most between two moves at nodes that it claims
abbrev pub most_vain : ℕ → ℕ → ℕ
most_vain count patience = (patience + 2) * (count + 1)

-- how many it makes at most between two moves
abbrev pub most_idle : ℕ → ℕ → ℕ
most_idle count patience = patience + most_vain count patience

-- how many of its visits make a move at most: as many as the nodes may make moves
abbrev pub most_moved : ℕ → ℕ
most_moved count = count * MAX_MOVES_OF_SERVICE

-- it may make a further visit
pub record MayVisit (count patience : ℕ) (v : Visits) : Type 0 where
  pub moved : v.moved < most_moved count
  pub refused : v.refused < patience
  pub vain : v.vain < most_vain count patience

-- each count may go up by one
pub record HaveRoom (v : Visits) : Type 0 where
  pub made : v.made + 1 < 2 ^ 128
  pub moved : v.moved + 1 < 2 ^ 64
  pub refused : v.refused + 1 < 2 ^ 64
  pub vain : v.vain + 1 < 2 ^ 64

-- the runner of the node was claimed as the one, given back as the other, and the moves that it made were counted
pub record WasVisited (pool : PoolData Parts) (node : ℕ) (old new : Visits) : Type 0 where
  pub x : Parts
  pub y : Parts
  pub claimed : ContinuesAt Grew pool.firsts node x
  pub grew : Grew x y
  pub counted : new ≡ after_moves (length y.log.entries - length x.log.entries) old

-- the claim was refused, and that was counted
pub record WasRefused (a b : Worker) : Type 0 where
  pub refused : length b.badge.refused ≡ length a.badge.refused + 1
  pub counted : b.outlook.visits ≡ after_refused a.outlook.visits

-- the worker has made one visit
abbrev pub MadeVisit : PoolData Parts → ℕ → Worker → Worker → Type 0
MadeVisit pool node a b =
    WasRefused a b ⊎ ((b.badge.refused ≡ a.badge.refused) × WasVisited pool node a.outlook.visits b.outlook.visits)

-- after a run with this patience no more of its claims were refused than these visits allow
abbrev pub FewRefused : ℕ → Worker → Worker → Type 0
FewRefused patience a b =
    length b.badge.refused ≤ length a.badge.refused + (b.outlook.visits.moved + 1) * patience
