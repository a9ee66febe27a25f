-- How a run ended, and what is known of a run that was made.
use Rattle.std.specs.Prelude.{◌≡◌, ◌≢◌, ◌<◌, ◌≤◌, ℕ, List, Option, Some, None, length, take}
use Rattle.lt_modes.specs.Script.{ScriptData}
use Rattle.lt_spec.specs.Script.{IsScript, IsShort}
use Rattle.lt_spec.specs.Ordered.{IsOrdered}
use Rattle.lt_spec.specs.World.{Logged, IsRun, EndsBy, full_node}
use Rattle.lt_spec.specs.Promised.{Promised}
use Rattle.lt_spec.specs.declared.ending.Ending.{Ending}
use Rattle.lt_spec.specs.declared.ending.Ending.TheVariants as ending
use Rattle.lt_threads.specs.Threads.{StaysWithin}
use Rattle.lt_serve.specs.declared.status.Status.{Status}
use Rattle.lt_serve.specs.declared.status.Status.TheVariants.{Done, Stuck, Cut}

-- the run ended as this status says
abbrev pub EndsAs : ℕ → Status → ScriptData → List Logged → Type 0
EndsAs moves Done script run = EndsBy moves ending.Done script run
EndsAs moves Stuck script run = EndsBy moves ending.Stuck script run
EndsAs moves (Cut node) script run = EndsBy moves (ending.Cut node) script run
EndsAs moves other script run = ⊥

-- before each move of the run no node had made as many moves as it may and had a further one: so the run stops at the
-- first moment at which a node is so
abbrev pub StopsInTime : ℕ → ScriptData → List Logged → Type 0
StopsInTime moves script run = (k : ℕ) → k < length run → full_node script moves (take k run) ≡ None

-- the node at which the run was cut
abbrev pub cut_of : Status → Option ℕ
cut_of (Cut node) = Some node
cut_of other = None

-- how a run ended, as a status
abbrev pub status_of_end : Ending → Status
status_of_end ending.Done = Done
status_of_end ending.Stuck = Stuck
status_of_end (ending.Cut node) = Cut node

-- a run of the script by all rules, in which a node makes up to so many moves; it ended so, and keeps all that is
-- promised
pub record RanTo (moves : ℕ) (ending : Status) (script : ScriptData) (run : List Logged) : Type 0 where
  pub is_script : IsScript script
  pub is_short : IsShort script
  pub is_run : IsRun script run
  pub within : StaysWithin moves script run
  pub ends : EndsAs moves ending script run
  pub promised : Promised script run
  -- if the script is ordered, it didn't end at rest with a client waiting
  pub ordered : IsOrdered script → ending ≢ Stuck
