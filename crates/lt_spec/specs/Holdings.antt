-- Who holds and who waits: by the lines of a run alone, and in a world; and who waits for whom.
use Rattle.lt_modes.specs.Serving.{is_gone}
use Rattle.std.specs.Prelude.{Bool, ◌&&◌, ◌||◌, ◌==◌, not, ℕ, List, [], ◌∷◌, ◌++◌, Option, Some, None, if◌then◌else◌, IsTrue, fold, filter, flat_map, position, remove, count_by, AllPairs, ◌≡◌, Contains, false, IsFalse, ◌<◌, length, ◌≢◌, nat_lt}
use Rattle.std.specs.List.{AllByRecursion}
use Rattle.lt_modes.specs.declared.mode.Mode.{Mode}
use Rattle.lt_modes.specs.declared.event.Event.{Event}
use Rattle.lt_modes.specs.declared.event.Event.TheVariants.{Grant, Wait, Try, Unlock, Change, DropAll, Withdrawn, Token}
use Rattle.lt_modes.specs.declared.parts.Link.{Link}
use Rattle.lt_modes.specs.Modes.{conflicts, same_mode, any_mode, count_of}
use Rattle.lt_modes.specs.Script.{ScriptData}
use Rattle.lt_modes.specs.declared.ask.Ask.{Ask}
use Rattle.lt_modes.specs.State.{SetState}
use Rattle.lt_modes.specs.Waiting.{pending_ask, stands_before, parked_behind}
use Rattle.lt_lists.specs.Below.{any_below}
use Rattle.lt_spec.specs.World.{Logged, World}
use Rattle.lt_spec.specs.NodeMove.{is_related, home}
use Rattle.lt_spec.specs.Facts.{state_at}

-- one lock of a client in a set
pub record Holding : Type 0 where
  pub client : ℕ
  pub set : ℕ
  pub mode : Mode

abbrev pub holding : ℕ → ℕ → Mode → Holding
holding client set mode = record { client = client; set = set; mode = mode }

abbrev pub same_holding : Holding → Holding → Bool
same_holding a b = a.client == b.client && (a.set == b.set && same_mode a.mode b.mode)

abbrev pub without_holding : List Holding → Option ℕ → List Holding
without_holding held None = held
without_holding held (Some k) = remove held k

-- one such lock less, where there is one
abbrev pub without_one : List Holding → Holding → List Holding
without_one held lock = without_holding held (position (same_holding lock) held)

-- the lock is one of the client in the family of the set
abbrev pub is_dropped : ScriptData → ℕ → ℕ → Holding → Bool
is_dropped script client set lock = lock.client == client && is_related script lock.set set

-- what is held after one line more
abbrev pub after_line : ScriptData → List Holding → Event → List Holding
after_line script held (Grant client set mode) = held ++ holding client set mode ∷ []
after_line script held (Try client set mode got) = if got then held ++ holding client set mode ∷ [] else held
after_line script held (Unlock client set mode) = without_one held (holding client set mode)
after_line script held (Change client set gives_up mode) =
    without_one held (holding client set gives_up) ++ holding client set mode ∷ []
after_line script held (DropAll client other set count) = filter (λ lock. not (is_dropped script other set lock)) held
after_line script held other = held

-- what is held after these lines
abbrev pub holdings : ScriptData → List Event → List Holding
holdings script lines = fold (after_line script) [] lines

-- how often the lock is held
abbrev pub times_held : List Holding → Holding → ℕ
times_held held lock = count_by (same_holding lock) held

-- the lines of a run, in order
abbrev pub lines_of : List Logged → List Event
lines_of run = flat_map (λ (entry : Logged). entry.events) run

-- the locks are in different sets, of one client, or don't conflict
abbrev pub agree : Holding → Holding → Bool
agree a b = not (a.set == b.set) || (a.client == b.client || not (conflicts a.mode b.mode))

-- locks of different clients agree with the conflict table
abbrev pub IsLawful : List Holding → Type 0
IsLawful held = AllPairs (λ a b. IsTrue (agree a b)) held

-- what the client waits for after one line more
abbrev pub wanted_after : ℕ → Option Holding → Event → Option Holding
wanted_after client wanted (Wait c set mode) = if c == client then Some (holding c set mode) else wanted
wanted_after client wanted (Grant c set mode) = if c == client then None else wanted
wanted_after client wanted (Change c set gives_up mode) = if c == client then None else wanted
wanted_after client wanted (Withdrawn c set mode) = if c == client then None else wanted
wanted_after client wanted other = wanted

-- what the client waits for: its last `wait` line, where no `grant`, `change` or `withdrawn` line of it came later
abbrev pub wanted : ℕ → List Event → Option Holding
wanted client lines = fold (wanted_after client) None lines

abbrev pub owner_after : ℕ → Link → Event → Link
owner_after s owner (Token set to epoch) = if set == s then record { node = to; epoch = epoch } else owner
owner_after s owner other = owner

-- the node and the epoch of the set's last `token` line, or node 0 and epoch 0
abbrev pub owner_of : ℕ → List Event → Link
owner_of s lines = fold (owner_after s) (record { node = 0; epoch = 0 }) lines

-- Who waits, by the asks of a node and by the lines of a run, and which lock bars an ask.

-- the client waits for the mode: an unanswered ask of it wants it
abbrev pub WaitsFor : ScriptData → World → ℕ → ℕ → Mode → Type 0
WaitsFor script w client s mode =
    (ask : Ask) × Contains (state_at w s (home script client)).pending ask × (ask.client ≡ client) × (ask.mode ≡ mode)
    × (is_gone (state_at w s (home script client)) client ≡ false)

-- the line says that the client waits, or waits no more
abbrev pub is_about_waiting : ℕ → Event → Bool
is_about_waiting client (Wait c set mode) = c == client
is_about_waiting client (Grant c set mode) = c == client
is_about_waiting client (Change c set gives_up mode) = c == client
is_about_waiting client (Withdrawn c set mode) = c == client
is_about_waiting client other = false

-- the last of the client's `wait`, `grant`, `change` and `withdrawn` lines is a `wait` line, of this set and mode
abbrev pub HasOpenWait : ℕ → ℕ → Mode → List Event → Type 0
HasOpenWait client set mode lines =
    (before : List Event) × (later : List Event) × (lines ≡ before ++ Wait client set mode ∷ later)
    × AllByRecursion (λ line. IsFalse (is_about_waiting client line)) later

-- by these lines some client of the script waits
abbrev pub HasWaiter : ScriptData → List Event → Type 0
HasWaiter script lines = (client s : ℕ) × (mode : Mode) × (client < length script.clients) × (s < length script.sets)
    × HasOpenWait client s mode lines

-- by these lines another client holds a lock of the set with which the ask conflicts
pub record IsBarredByLines (script : ScriptData) (lines : List Event) (s : ℕ) (ask : Ask) : Type 0 where
  pub lock : Holding
  pub held : Contains (holdings script lines) lock
  pub set : lock.set ≡ s
  pub other : lock.client ≢ ask.client
  pub conflict : IsTrue (conflicts ask.mode lock.mode)

-- Who waits for whom in a world.

-- the client holds a lock of the set with which the mode conflicts
abbrev pub holds_against : ScriptData → World → ℕ → Mode → ℕ → Bool
holds_against script w s mode client =
    any_mode (λ m. conflicts mode m && nat_lt 0 (count_of (state_at w s (home script client)).held client m))

-- at some node the other client's ask stands before the client's, or the client's ask is parked behind it
abbrev pub waits_behind : ScriptData → World → ℕ → ℕ → ℕ → Bool
waits_behind script w s other client =
    any_below script.nodes (λ q. stands_before (state_at w s q) other client || parked_behind (state_at w s q) other client)

-- the client's ask for the set was given up: it is void
abbrev pub gave_up : ScriptData → World → ℕ → ℕ → Bool
gave_up script w s client = is_gone (state_at w s (home script client)) client

-- the other client's lock or ask stands in the way of the ask: it conflicts with a lock that the other one holds, or it stands
-- behind its ask in the queue or is parked behind it, and that ask wasn't given up
abbrev pub is_kept_by : ScriptData → World → ℕ → ℕ → Ask → Bool
is_kept_by script w s other ask =
    holds_against script w s ask.mode other || (not (gave_up script w s other) && waits_behind script w s other ask.client)

abbrev pub kept_if : ScriptData → World → ℕ → ℕ → Option Ask → Bool
kept_if script w s other None = false
kept_if script w s other (Some ask) = is_kept_by script w s other ask

-- the ask stands behind a void ask of the other client in the queue, or is parked behind it
abbrev pub is_behind_void : ScriptData → World → ℕ → ℕ → Ask → Bool
is_behind_void script w s other ask = gave_up script w s other && waits_behind script w s other ask.client

abbrev pub behind_void_if : ScriptData → World → ℕ → ℕ → Option Ask → Bool
behind_void_if script w s other None = false
behind_void_if script w s other (Some ask) = is_behind_void script w s other ask

-- the client's unanswered ask here, unless it was given up
abbrev pub live_ask : SetState → ℕ → Option Ask
live_ask s client = if is_gone s client then None else pending_ask s client

-- the client waits for the other one: that one stands in the way of its unanswered ask
abbrev pub waits_for : ScriptData → World → ℕ → ℕ → Bool
waits_for script w client other =
    not (client == other)
    && any_below (length script.sets) (λ s. kept_if script w s other (live_ask (state_at w s (home script client)) client))

-- the client waits behind a void ask of the other one
abbrev pub waits_behind_void : ScriptData → World → ℕ → ℕ → Bool
waits_behind_void script w client other =
    any_below (length script.sets) (λ s. behind_void_if script w s other (live_ask (state_at w s (home script client)) client))
