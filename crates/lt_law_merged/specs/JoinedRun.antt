-- Joined plays are a run, as statements.
use Rattle.std.specs.Prelude.{◌≡◌, ℕ, List, ◌++◌, Some, length, map, slice_get}
use Rattle.lt_modes.specs.Script.{ScriptData}
use Rattle.lt_modes.specs.State.{Letter}
use Rattle.lt_lists.specs.Below.{sum_below}
use Rattle.lt_spec.specs.World.{Logged, world_after, IsRun}
use Rattle.lt_merge.specs.Merging.{RunData, IsMerged, AreLogs, Merges}
use Rattle.lt_law_plays.specs.Merged.{merged, Part, logs_of, Joined}
use Rattle.lt_law_plays.specs.MergeLaws.{joined_world}

-- a run, after which each node is as its part left it, and the letters that were sent and not used are on their way
pub record IsJoinedRun (script : ScriptData) (parts : List Part) (run : List Logged) : Type 0 where
  pub is_merged : IsMerged (logs_of script parts).log run
  pub is_run : IsRun script run
  pub count : length run ≡ sum_below script.nodes (λ x. length ((logs_of script parts).log x))
  pub world : world_after script run ≡ joined_world script (logs_of script parts) run
  pub node : (q : ℕ) (part : Part) → slice_get parts q ≡ Some part → (world_after script run).node q ≡ part.last
  pub mail : (p q : ℕ) (a b : Part) (rest : List Letter) → slice_get parts p ≡ Some a → slice_get parts q ≡ Some b
      → a.sent q ≡ b.used p ++ rest → (world_after script run).mail p q ≡ rest

-- the entries of all parts, in order of their stamps, are such a run
abbrev pub JoinedRuns : Type 0
JoinedRuns = (script : ScriptData) (parts : List Part) (run : List Logged) → Joined script parts → IsMerged (logs_of script parts).log run
    → IsJoinedRun script parts run

-- and there is one
abbrev pub JoinedMerges : Type 0
JoinedMerges = (script : ScriptData) (parts : List Part) → Joined script parts
    → IsJoinedRun script parts (merged script.nodes (logs_of script parts).log)

-- the logs can be merged, and then they are such a run
pub record AreLogsOf (script : ScriptData) (parts : List Part) (logs : List RunData) : Type 0 where
  pub are_logs : AreLogs logs
  pub runs : (run : List Logged) → Merges logs run → IsJoinedRun script parts run

-- where these are the logs of the parts, in their order
abbrev pub LogsOfParts : Type 0
LogsOfParts = (script : ScriptData) (parts : List Part) (logs : List RunData) → Joined script parts
    → map (λ (log : RunData). log.entries) logs ≡ map (λ (part : Part). part.log) parts → AreLogsOf script parts logs
