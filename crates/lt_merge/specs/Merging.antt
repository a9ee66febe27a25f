-- What contracts see of a run.
use Rattle.std.specs.Prelude.{List, [], ◌∷◌, ◌++◌, ℕ, Option, slice_get, ◌≡◌, ◌⊎◌, if◌then◌else◌, IsTrue, filter, length, option_map}
use Rattle.std.specs.List.{AllByRecursion}
use Rattle.lt_modes.specs.declared.moves.Move.{Move}
use Rattle.lt_modes.specs.declared.event.Event.{Event}
use Rattle.lt_modes.specs.Telling.{is_newer}
use Rattle.lt_spec.specs.World.{Logged, is_of_node}

-- the moves with their events; the moves that there is room for; the events that there is room for
pub record RunData : Type 0 where
  pub entries : List Logged
  pub spare : ℕ
  pub room : ℕ

-- a move that has no events yet
abbrev pub just_made : Move → Logged
just_made made = record { made = made; events = [] }

-- the entries after the last move has one event more
abbrev pub with_event : List Logged → Event → List Logged
with_event [] event = []
with_event (entry ∷ []) event = record entry { events = entry.events ++ event ∷ [] } ∷ []
with_event (entry ∷ next ∷ later) event = entry ∷ with_event (next ∷ later) event

-- the entries after the last move has these events more
abbrev pub with_events : List Logged → List Event → List Logged
with_events entries [] = entries
with_events entries (event ∷ events) = with_events (with_event entries event) events

-- the move at place k
abbrev pub made_at : List Logged → ℕ → Option Move
made_at entries k = option_map (λ (entry : Logged). entry.made) (slice_get entries k)

-- the events of the move at place k
abbrev pub events_at : List Logged → ℕ → Option (List Event)
events_at entries k = option_map (λ (entry : Logged). entry.events) (slice_get entries k)

-- How logs are merged: all their entries, in order of stamps.

-- the first entry's stamp is less: by clock, then by node
abbrev pub IsBefore : Logged → Logged → Type 0
IsBefore a b = IsTrue (is_newer b.made.stamp a.made.stamp)

-- each entry is before all later ones
abbrev pub AreRising : List Logged → Type 0
AreRising [] = Unit {0}
AreRising (entry ∷ rest) = AllByRecursion (IsBefore entry) rest × AreRising rest

-- the entries of the logs of all nodes and no others, in order of their stamps
pub record IsMerged (log : ℕ → List Logged) (run : List Logged) : Type 0 where
  pub rising : AreRising run
  pub parts : (x : ℕ) → filter (is_of_node x) run ≡ log x

-- the entry is before all of these, or after some and then before the others; the rest is merged with those after it
abbrev pub first_merged : Logged → (List Logged → List Logged) → List Logged → List Logged
first_merged entry rest [] = entry ∷ rest []
first_merged entry rest (other ∷ others) =
    if is_newer other.made.stamp entry.made.stamp
    then entry ∷ rest (other ∷ others)
    else other ∷ first_merged entry rest others

-- the entries of both lists: always the one whose stamp is less comes next
abbrev pub both_merged : List Logged → List Logged → List Logged
both_merged [] second = second
both_merged (entry ∷ rest) second = first_merged entry (both_merged rest) second

-- the entries of all logs, log by log
abbrev pub all_entries : List RunData → List Logged
all_entries [] = []
all_entries (log ∷ logs) = log.entries ++ all_entries logs

-- the entries of each node
abbrev pub by_node : List RunData → ℕ → List Logged
by_node logs x = filter (is_of_node x) (all_entries logs)

-- no node has entries in both lists
abbrev pub AreNodesApart : List Logged → List Logged → Type 0
AreNodesApart first second = (x : ℕ) → (filter (is_of_node x) first ≡ []) ⊎ (filter (is_of_node x) second ≡ [])

-- stamps rise in each log, and no node has entries in two of them
abbrev pub AreLogs : List RunData → Type 0
AreLogs [] = Unit {0}
AreLogs (log ∷ logs) = AreRising log.entries × AreNodesApart log.entries (all_entries logs) × AreLogs logs

-- the run has the entries of all logs, in order of their stamps
pub record Merges (logs : List RunData) (run : List Logged) : Type 0 where
  pub order : IsMerged (by_node logs) run
  pub count : length run ≡ length (all_entries logs)
