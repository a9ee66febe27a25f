-- What contracts see of a log whose moves can be forgotten.
use Rattle.std.specs.Prelude.{◌≡◌, ◌+◌, ◌<◌, ◌^◌, ℕ, List, length, flat_map}
use Rattle.lt_spec.specs.World.{Logged}
use Rattle.lt_merge.specs.Merging.{RunData}

-- all moves with their events; how many of them, the first ones, are forgotten; the moves that there is room for; the
-- events that there is room for
pub record LogData : Type 0 where
  pub entries : List Logged
  pub gone : ℕ
  pub spare : ℕ
  pub room : ℕ

-- the moves of these runs, one after the other
abbrev pub past_of : List RunData → List Logged
past_of runs = flat_map (λ (run : RunData). run.entries) runs

-- so many moves are forgotten; fewer than 2^32 are kept, and all together they are fewer than 2^64
pub record CountsForgotten (past kept : List Logged) (gone : ℕ) : Type 0 where
  pub gone_is : length past ≡ gone
  pub few : length past + length kept < 2 ^ 64
  pub few_kept : length kept < 2 ^ 32
