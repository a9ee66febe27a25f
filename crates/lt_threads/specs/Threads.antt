-- What a run on threads comes to.
use Rattle.std.specs.Prelude.{◌≡◌, ◌<◌, ◌≤◌, true, ℕ, List}
use Rattle.lt_modes.specs.Script.{ScriptData}
use Rattle.lt_spec.specs.World.{Logged, IsRun, world_after, EndsBy, moves_of, can_move}
use Rattle.lt_merge.specs.Merging.{AreRising}
use Rattle.lt_spec.specs.declared.ending.Ending.{Ending}

-- no node has made more moves than it may
abbrev pub StaysWithin : ℕ → ScriptData → List Logged → Type 0
StaysWithin limit script run = (q : ℕ) → q < script.nodes → moves_of q run ≤ limit

-- each node that can make a further move has made as many as it may
abbrev pub GoesFar : ℕ → ScriptData → List Logged → Type 0
GoesFar limit script run = (q : ℕ) → q < script.nodes → can_move script (world_after script run) q ≡ true → moves_of q run ≡ limit

-- a run of the script, its moves in the order of their stamps, that ended so
pub record IsThreadRun (limit : ℕ) (ending : Ending) (script : ScriptData) (run : List Logged) : Type 0 where
  pub is_run : IsRun script run
  pub rising : AreRising run
  pub ends : EndsBy limit ending script run
  pub within : StaysWithin limit script run
  pub far : GoesFar limit script run
