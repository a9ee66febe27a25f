-- The next moves of the logs that are merged, in order of their stamps.
use Rattle.std.specs.Prelude.{◌≡◌, List, [], ◌∷◌, ◌++◌, ℕ, ◌+◌, Option, Some, None, IsTrue, if◌then◌else◌, length, take, drop, slice_get}
use Rattle.std.specs.List.{AllByRecursion}
use Rattle.lt_modes.specs.declared.stamp.Stamp.{Stamp}
use Rattle.lt_modes.specs.Telling.{is_newer}
use Rattle.lt_spec.specs.World.{Logged}
use Rattle.lt_merge.specs.declared.heads.Head.{Head}
use Rattle.lt_merge.specs.Merging.{RunData, all_entries, by_node, AreLogs, Merges}

-- the entries of the log, if there is one
abbrev pub entries_in : Option RunData → List Logged
entries_in None = []
entries_in (Some log) = log.entries

-- the entries of the head's log from the head on
abbrev pub rest_of : List RunData → Head → List Logged
rest_of logs head = drop head.place (entries_in (slice_get logs head.log))

-- the logs of these heads, each from its head on
abbrev pub rests_of : List RunData → List Head → List RunData
rests_of logs [] = []
rests_of logs (head ∷ heads) = record { entries = rest_of logs head; spare = 0; room = 0 } ∷ rests_of logs heads

-- the stamp of the first entry
abbrev pub first_stamp : List Logged → Option Stamp
first_stamp [] = None
first_stamp (entry ∷ rest) = Some entry.made.stamp

-- the head has the stamp of the entry at its place
abbrev pub IsHead : List RunData → Head → Type 0
IsHead logs head = first_stamp (rest_of logs head) ≡ Some head.stamp

-- the head of the log at this place, where the log doesn't end there
abbrev pub IsHeadAt : List RunData → ℕ → ℕ → Option Head → Type 0
IsHeadAt logs log place None = drop place (entries_in (slice_get logs log)) ≡ []
IsHeadAt logs log place (Some head) = IsHead logs head × (head.log ≡ log) × (head.place ≡ place)

-- each head's stamp is less than those of all later ones
abbrev pub AreHeadsInOrder : List Head → Type 0
AreHeadsInOrder [] = Unit {0}
AreHeadsInOrder (head ∷ heads) = AllByRecursion (λ (other : Head). IsTrue (is_newer other.stamp head.stamp)) heads × AreHeadsInOrder heads

-- heads of different logs, in order
pub record AreHeads (logs : List RunData) (heads : List Head) : Type 0 where
  pub each : AllByRecursion (IsHead logs) heads
  pub order : AreHeadsInOrder heads
  pub apart : AreLogs (rests_of logs heads)

-- the head at its place among others that are in order
abbrev pub placed : Head → List Head → List Head
placed head [] = head ∷ []
placed head (other ∷ others) = if is_newer head.stamp other.stamp then other ∷ placed head others else head ∷ other ∷ others

-- the first head at its place among the others
abbrev pub settled_heads : List Head → List Head
settled_heads [] = []
settled_heads (head ∷ heads) = placed head heads

-- both have the same entries of each node
pub record AreSame (first second : List RunData) : Type 0 where
  pub parts : (x : ℕ) → by_node first x ≡ by_node second x
  pub count : length (all_entries first) ≡ length (all_entries second)

-- nothing of the logs from place k on is taken yet
pub record Begins (logs : List RunData) (k : ℕ) (heads : List Head) : Type 0 where
  pub are_heads : AreHeads logs heads
  pub same : AreSame (rests_of logs heads) (drop k logs)

-- the entry of the first head is taken: it comes before what the rest is merged to
pub record Advances (logs : List RunData) (head : Head) (before after : List Head) : Type 0 where
  pub are_heads : AreHeads logs after
  pub next : (run : List Logged) → Merges (rests_of logs after) run → Merges (rests_of logs before) (take 1 (rest_of logs head) ++ run)
  pub count : length (all_entries (rests_of logs after)) + 1 ≡ length (all_entries (rests_of logs before))
