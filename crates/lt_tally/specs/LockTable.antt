-- The table of the locks held: how many of each mode each client holds in each set.
use Rattle.std.specs.Prelude.{◌≡◌, ◌<◌, ◌+◌, ◌*◌, List, ℕ, Option, None, length, slice_index, slice_index_or}
use Rattle.lt_modes.specs.declared.mode.Mode.{Mode}
use Rattle.lt_modes.specs.Script.{ScriptData}
use Rattle.lt_modes.specs.declared.event.Event.{Event}
use Rattle.lt_modes.specs.declared.parts.Link.{Link}
use Rattle.lt_spec.specs.Holdings.{Holding, holdings, times_held, wanted, owner_of}
use Rattle.lt_modes.specs.FiveModes.{place_of_mode}

-- the place of a mode among all modes; sealed: what looks at it says so (`unfolding mode_place`)
unfoldable pub mode_place : Mode → ℕ
mode_place mode = place_of_mode mode

-- a number for each client, set and mode: each client has six cells for each of so many sets
pub record Table : Type 0 where
  pub sets : ℕ
  pub cells : List ℕ

-- the place of a lock's cell
abbrev pub cell_of : ℕ → Holding → ℕ
cell_of sets lock = lock.client * (sets * 6) + (lock.set * 6 + mode_place lock.mode)

-- the script has the lock's client and its set
abbrev pub HasCell : ScriptData → Holding → Type 0
HasCell script lock = (lock.client < length script.clients) × (lock.set < length script.sets)

-- the table counts the locks: each cell has the number of the locks of its client, set and mode
pub record Counts (script : ScriptData) (table : Table) (held : List Holding) : Type 0 where
  pub sets : table.sets ≡ length script.sets
  pub room : length table.cells ≡ length script.clients * (table.sets * 6)
  pub count : (lock : Holding) → HasCell script lock
      → slice_index table.cells (cell_of table.sets lock) ≡ times_held held lock

-- the locks counted, what each client waits for, and where each set's token went last
pub record Tally : Type 0 where
  pub held : Table
  pub waiting : List (Option Holding)
  pub owners : List Link

-- what the client waits for
abbrev pub waited_for : List (Option Holding) → ℕ → Option Holding
waited_for waiting client = slice_index_or waiting client None

-- where the set's token went last
abbrev pub owner_at : List Link → ℕ → Link
owner_at owners set = slice_index_or owners set (record { node = 0; epoch = 0 })

-- the list says what each client waits for after these events
pub record TellsWaits (script : ScriptData) (waiting : List (Option Holding)) (events : List Event) : Type 0 where
  pub room : length waiting ≡ length script.clients
  pub each : (client : ℕ) → client < length script.clients → waited_for waiting client ≡ wanted client events

-- the list says where each set's token went last
pub record TellsOwners (script : ScriptData) (owners : List Link) (events : List Event) : Type 0 where
  pub room : length owners ≡ length script.sets
  pub each : (set : ℕ) → set < length script.sets → owner_at owners set ≡ owner_of set events

-- the tally tells what these events come to
pub record IsTallied (script : ScriptData) (tally : Tally) (events : List Event) : Type 0 where
  pub held : Counts script tally.held (holdings script events)
  pub waiting : TellsWaits script tally.waiting events
  pub owners : TellsOwners script tally.owners events
