-- What keeps a client from the ask that it waits for.
use Rattle.std.specs.Prelude.{◌≡◌, ◌<◌, ℕ, List, Bool, false, ◌==◌, ◌&&◌, not, Option, None, Some, length, slice_index_or}
use Rattle.lt_modes.specs.declared.ask.Ask.{Ask}
use Rattle.lt_spec.specs.Holdings.{is_kept_by, is_behind_void, waits_behind}
use Rattle.lt_world.specs.Fields.{WorldData, world_of}

-- the other client stands in the way of the ask for its set, if there is one
abbrev pub stands_in_way : WorldData → ℕ → Option (ℕ × Ask) → Bool
stands_in_way w other None = false
stands_in_way w other (Some found) = is_kept_by w.script (world_of w) found.0 other found.1

-- the ask for its set, if there is one, stands behind a void ask of the other client
abbrev pub void_in_way : WorldData → ℕ → Option (ℕ × Ask) → Bool
void_in_way w other None = false
void_in_way w other (Some found) = is_behind_void w.script (world_of w) found.0 other found.1

-- the other one is another client, and stands in the way of the client's ask, if there is one
abbrev pub waits_by : WorldData → ℕ → ℕ → Option (ℕ × Ask) → Bool
waits_by w client other ask = not (client == other) && stands_in_way w other ask

-- a mark for each client: the other one's ask for the set waits behind one of the client
pub record AreBehind (w : WorldData) (set waiting : ℕ) (marks : List Bool) : Type 0 where
  pub count : length marks ≡ length w.script.clients
  pub marks_are : (client : ℕ) → client < length w.script.clients
      → slice_index_or marks client false ≡ waits_behind w.script (world_of w) set client waiting
