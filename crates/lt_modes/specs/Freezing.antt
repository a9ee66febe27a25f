-- Freezing: the nodes that have a lock learn which modes the waiting asks keep from being granted there.
use Rattle.std.specs.Prelude.{Bool, ℕ, ◌+◌, List, [], ◌∷◌, if◌then◌else◌, ◌||◌, ◌&&◌, ◌==◌, not, Option, Some, None, map}
use Rattle.lt_modes.specs.declared.stamp.Stamp.{Stamp}
use Rattle.lt_modes.specs.declared.ask.Ask.{Ask}
use Rattle.lt_modes.specs.declared.event.Event.TheVariants.{Freeze}
use Rattle.lt_modes.specs.Modes.{Modes, bars, has_none, same_modes}
use Rattle.lt_modes.specs.State.{SetState, Desk, Entry, FreezeBody, modes_of_asks, Made, silent, post_of, record_of}

-- Lists by place.

abbrev pub cons_if : {X : Type 0} → Bool → X → List X → List X
cons_if wanted x xs = if wanted then x ∷ xs else xs

-- the places of the items that pass, where the first item is at place k
abbrev pub places_from : {X : Type 0} → (ℕ → X → Bool) → ℕ → List X → List ℕ
places_from test k [] = []
places_from test k (x ∷ xs) = cons_if (test k x) k (places_from test (k + 1) xs)

-- what f makes of each item and its place, where the first item is at place k
abbrev pub map_from : {X Y : Type 0} → (ℕ → X → Y) → ℕ → List X → List Y
map_from f k [] = []
map_from f k (x ∷ xs) = f k x ∷ map_from f (k + 1) xs

-- What is frozen, who is told it, and what the desk's node sends.

-- the modes that conflict with a waiting ask
abbrev pub frozen_by : List Ask → Modes
frozen_by queue = bars (modes_of_asks queue)

-- another node has a record and was told other frozen modes
abbrev pub is_target : ℕ → Modes → ℕ → Entry → Bool
is_target me frozen x entry =
    not (x == me) && (not (has_none (record_of entry)) && not (same_modes entry.frozen_told frozen))

-- the nodes that are told, in order
abbrev pub targets : ℕ → Modes → Desk → List ℕ
targets me frozen desk = places_from (is_target me frozen) 0 desk.entries

abbrev pub number_after : List ℕ → ℕ → ℕ
number_after [] number = number
number_after (x ∷ rest) number = number + 1

-- the entry of node x, once the targets and the desk's node know the frozen modes
abbrev pub frozen_entry : ℕ → Modes → ℕ → Entry → Entry
frozen_entry me frozen x entry =
    if x == me || is_target me frozen x entry then record entry { frozen_told = frozen } else entry

-- these targets are sent the frozen modes with this number
abbrev pub freeze_with : ℕ → Stamp → SetState → Desk → Modes → List ℕ → ℕ → Made
freeze_with set stamp s desk frozen told number = record {
  state = record s {
    frozen = frozen;
    number = number;
    desk = Some (record desk { number = number; entries = map_from (frozen_entry stamp.node frozen) 0 desk.entries });
  };
  posts = map (λ x. post_of set stamp s x (FreezeBody number frozen)) told;
  events = map (λ x. Freeze set x number frozen) told;
}

abbrev pub freeze_to : ℕ → Stamp → SetState → Desk → Modes → List ℕ → Made
freeze_to set stamp s desk frozen told = freeze_with set stamp s desk frozen told (number_after told desk.number)

abbrev pub freeze_by : ℕ → Stamp → SetState → Desk → Modes → Made
freeze_by set stamp s desk frozen = freeze_to set stamp s desk frozen (targets stamp.node frozen desk)

abbrev pub freeze_at : ℕ → Stamp → SetState → Option Desk → Made
freeze_at set stamp s None = silent s
freeze_at set stamp s (Some desk) = freeze_by set stamp s desk (frozen_by desk.queue)

-- the desk's node tells the targets, where there are some with the next freeze number, and keeps the frozen modes itself
abbrev pub freeze : ℕ → Stamp → SetState → Made
freeze set stamp s = freeze_at set stamp s s.desk
