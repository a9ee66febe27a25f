-- Workers between visits, and the first badge of their pool, into which the others are joined.
use Rattle.std.specs.Prelude.{◌≡◌, ◌≢◌, ◌<◌, ◌+◌, ℕ, List, [], length, slice_index_or}
use Rattle.lt_pool.specs.PoolData.{PoolData, BadgeData, new_badge}
use Rattle.lt_runner.specs.declared.parts.Parts.{Parts}
use Rattle.lt_threads.specs.declared.worker.Worker.{Worker}

-- a badge of this pool that isn't the first one and has claimed nothing
pub record IsFree (pool : PoolData Parts) (p : BadgeData Parts) : Type 0 where
  pub of : p.pool ≡ pool
  pub number : p.number ≢ 0
  pub claimed : p.claimed ≡ []

abbrev pub AreFree : PoolData Parts → List Worker → Type 0
AreFree pool ws = (k : ℕ) (other : Worker) → k < length ws → IsFree pool (slice_index_or ws k other).badge

-- the first badge of this pool, where so many that were split off it are not joined yet
pub record LeadsPool (pool : PoolData Parts) (n : ℕ) (p : BadgeData Parts) : Type 0 where
  pub of : p.pool ≡ pool
  pub number : p.number ≡ 0
  pub claimed : p.claimed ≡ []
  pub joined : length p.joined + n ≡ p.splits

-- the first badge of this pool, after so many were split off it
abbrev pub after_splits : PoolData Parts → ℕ → BadgeData Parts
after_splits pool n = record (new_badge pool 0) { splits = n }
