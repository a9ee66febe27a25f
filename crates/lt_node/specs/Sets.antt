-- All sets of a node, of which those alone have a core that were touched.
use Rattle.std.specs.Prelude.{ℕ, zero, suc, List, ◌≡◌, ◌<◌, ◌≤◌, ◌+◌, ◌==◌, ◌&&◌, not, length, map, slice_index_or, slice_set, sum_by, if◌then◌else◌}
use Rattle.std.specs.List.{list_any}
use Rattle.lt_modes.specs.declared.ask.Ask.{Ask}
use Rattle.lt_modes.specs.Fits.{has_client}
use Rattle.lt_modes.specs.Freezing.{map_from}
use Rattle.lt_modes.specs.Modes.{locks_of}
use Rattle.lt_modes.specs.Script.{ScriptData}
use Rattle.lt_modes.specs.Waiting.{waits}
use Rattle.lt_modes.specs.State.{Made, first_state}
use Rattle.lt_lists.specs.Below.{count_below}
use Rattle.lt_spec.specs.declared.limits.TheConstants.{MAX_SETS_OF_SERVICE}
use Rattle.lt_desk.specs.DeskData.{OutData}
use Rattle.lt_core.specs.CoreData.{CoreData, Does}
use Rattle.lt_node.specs.NodeData.{IsCoreOf, kept_of, untouched}

-- how many nodes there are and which one this is; for each set 0, or one more than the place of its core; and what is
-- kept for each set
pub record SetsData : Type 0 where
  pub nodes : ℕ
  pub me : ℕ
  pub places : List ℕ
  pub cores : List CoreData

-- what is kept for a set with this place, where these are the cores
abbrev pub core_by : ℕ → ℕ → List CoreData → ℕ → ℕ → CoreData
core_by nodes me cores s zero = untouched nodes me s
core_by nodes me cores s (suc k) = slice_index_or cores k (untouched nodes me s)

-- the same for the set with this number
abbrev pub core_of : ℕ → ℕ → List ℕ → List CoreData → ℕ → CoreData
core_of nodes me places cores s = core_by nodes me cores s (slice_index_or places s 0)

-- the same for each set
abbrev pub cores_by : ℕ → ℕ → List ℕ → List CoreData → List CoreData
cores_by nodes me places cores = map_from (core_by nodes me cores) 0 places

-- what is kept for the set
abbrev pub core_in : SetsData → ℕ → CoreData
core_in sets s = slice_index_or sets.cores s (untouched sets.nodes sets.me s)

-- the set has a core
abbrev pub IsTouched : SetsData → ℕ → Type 0
IsTouched sets s = 0 < slice_index_or sets.places s 0

-- how many locks the client has in these sets
abbrev pub locks_by : SetsData → ℕ → List ℕ → ℕ
locks_by sets client numbers = sum_by (λ s. locks_of (core_in sets s).state.held client) numbers

-- they are the sets of this node of the script
pub record AreSetsOf (script : ScriptData) (me : ℕ) (sets : SetsData) : Type 0 where
  pub nodes : sets.nodes ≡ script.nodes
  pub node : sets.me ≡ me
  pub count : length sets.cores ≡ length script.sets
  pub places : (s : ℕ) → IsCoreOf me s (core_in sets s)

-- all sets are in the same states, with other memory
pub record SameSets (old new : SetsData) : Type 0 where
  pub nodes : new.nodes ≡ old.nodes
  pub me : new.me ≡ old.me
  pub kept : map kept_of new.cores ≡ map kept_of old.cores

-- one set made this, and sent it out; no other changed
pub record SetDoes (s : ℕ) (made : Made) (old : SetsData) (had : OutData) (new : SetsData) (out : OutData)
    : Type 0 where
  pub others : new ≡ record old { cores = slice_set old.cores s (core_in new s) }
  pub does : Does made (core_in old s) had (core_in new s) out

-- In how many sets each client waits.

-- 1 where one of the asks is of the client, and it isn't among those that gave up theirs
abbrev pub asks_of : List Ask → List ℕ → ℕ → ℕ
asks_of asks gone client = if has_client client asks && not (list_any (λ other. other == client) gone) then 1 else 0

-- for each client whose ask is among these, and not given up, it is one set less
pub record WaitLess (asks : List Ask) (gone : List ℕ) (old new : List ℕ) : Type 0 where
  pub count : length new ≡ length old
  pub each : (client : ℕ) → client < length old
      → slice_index_or new client 0 + asks_of asks gone client ≡ slice_index_or old client 0

-- for each of them it is one set more
pub record WaitMore (asks : List Ask) (gone : List ℕ) (old new : List ℕ) : Type 0 where
  pub count : length new ≡ length old
  pub each : (client : ℕ) → client < length old
      → slice_index_or new client 0 ≡ slice_index_or old client 0 + asks_of asks gone client

-- in how many of so many sets the client waits
abbrev pub waiting_sets : ℕ → (ℕ → CoreData) → ℕ → ℕ
waiting_sets sets core client = count_below sets (λ s. waits (core s).state client)

-- the numbers tell this of each client that has one
abbrev pub TellWaiting : ℕ → (ℕ → CoreData) → List ℕ → Type 0
TellWaiting sets core counts =
    (client : ℕ) → client < length counts → slice_index_or counts client 0 ≡ waiting_sets sets core client

-- What is known of the storage.

-- 1 for a set that has no core
abbrev pub none_at : ℕ → ℕ
none_at zero = 1
none_at (suc k) = 0

-- each place leads to the core of its set, and no core is without a set; a set without a core is as the first one says
pub record AreStored (nodes me : ℕ) (first : CoreData) (places : List ℕ) (cores : List CoreData) (counts : List ℕ)
    : Type 0 where
  pub few_nodes : nodes ≤ 64
  pub few_sets : length places ≤ MAX_SETS_OF_SERVICE
  pub first_is : (first.node ≡ me) × (first.state ≡ first_state nodes me)
  pub inside : (s : ℕ) → slice_index_or places s 0 ≤ length cores
  pub own : (s k : ℕ) (d : CoreData) → slice_index_or places s 0 ≡ suc k
      → IsCoreOf me s (slice_index_or cores k d)
  pub full : length cores + sum_by none_at places ≤ length places
  pub waiting : TellWaiting (length places) (core_of nodes me places cores) counts
