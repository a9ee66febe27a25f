-- What the desk does next, as one value.
use Rattle.std.specs.Prelude.{Bool, true, false, ℕ, ◌<◌, ◌==◌, List, Option, Some, None, if◌then◌else◌, slice_index_or}
use Rattle.lt_modes.specs.declared.ask.Ask.{Ask}
use Rattle.lt_modes.specs.State.{SetState, no_ask}
use Rattle.lt_modes.specs.Serving.{queue_of, next_service}
use Rattle.lt_modes.specs.HandingOver.{next_draw}
use Rattle.lt_desk.specs.declared.pick.Pick.{Pick}
use Rattle.lt_desk.specs.declared.pick.Turn.{Turn}
use Rattle.lt_desk.specs.declared.pick.Turn.TheVariants.{Served, Draws, Later}
use Rattle.lt_desk.specs.declared.pick.Pick.TheVariants.{Nothing, Local, Copy, HandOver}

-- a service is local where its ask is of node `me`; the desk moves only where there is no service
abbrev pub picked_by : ℕ → List Ask → Option ℕ → Option ℕ → Pick
picked_by me queue (Some k) move = if (slice_index_or queue k no_ask).node == me then Local k else Copy k
picked_by me queue None (Some k) = HandOver k
picked_by me queue None None = Nothing

-- the next service; where there is none, the next move of the desk
abbrev pub picked : ℕ → SetState → Pick
picked me s = picked_by me (queue_of s) (next_service me s) (next_draw me s)

-- the place of the ask that is served
abbrev pub service_of : Pick → Option ℕ
service_of Nothing = None
service_of (Local k) = Some k
service_of (Copy k) = Some k
service_of (HandOver k) = None

-- the place of the ask to whose node the desk is handed over
abbrev pub place_drawn : Pick → Option ℕ
place_drawn Nothing = None
place_drawn (Local k) = None
place_drawn (Copy k) = None
place_drawn (HandOver k) = Some k

-- the first of the two that there is
abbrev pub first_of : Option ℕ → Option ℕ → Option ℕ
first_of (Some j) other = Some j
first_of None other = other

-- the desk is handed over where there is a place for it
abbrev pub hand_over_or_none : Option ℕ → Pick
hand_over_or_none (Some k) = HandOver k
hand_over_or_none None = Nothing

-- what becomes of an ask that is served or not, and that may draw the desk or not
abbrev pub turn_by : Bool → Bool → Turn
turn_by true draws = Served
turn_by false true = Draws
turn_by false false = Later

-- the ask is served
abbrev pub is_service : Turn → Bool
is_service Served = true
is_service Draws = false
is_service Later = false

-- the ask may draw the desk
abbrev pub is_draw : Turn → Bool
is_draw Served = false
is_draw Draws = true
is_draw Later = false

-- its place is one of a queue of this length
abbrev pub IsInQueue : ℕ → Pick → Type 0
IsInQueue n Nothing = Unit {0}
IsInQueue n (Local k) = k < n
IsInQueue n (Copy k) = k < n
IsInQueue n (HandOver k) = k < n
