-- Wider classes of scripts in which nobody waits at rest, or clients wait only in a ring.
use Rattle.std.specs.Prelude.{Bool, true, ◌&&◌, nat_lt, ℕ, List, [], ◌∷◌, length, IsTrue, ◌<◌, ◌≡◌, ◌⊎◌, ◌↔◌, ◌≤◌, take, IsFalse}
use Rattle.std.specs.List.{list_all}
use Rattle.lt_modes.specs.declared.command.Command.{Command}
use Rattle.lt_modes.specs.declared.command.Command.TheVariants.{Lock, Change}
use Rattle.lt_modes.specs.Modes.{one, covers}
use Rattle.lt_modes.specs.Script.{ScriptData}
use Rattle.lt_modes.specs.declared.mode.Mode.{Mode}
use Rattle.lt_spec.specs.NodeMove.{commands_of, IsWhole}
use Rattle.lt_spec.specs.Holdings.{Holding, holding, holdings, lines_of, times_held, WaitsFor}
use Rattle.lt_spec.specs.Ordered.{may_hold_after, may_hold, holds_none, IsOrdered}
use Rattle.lt_spec.specs.World.{Logged, world_after, made_by, IsRun, is_at_rest, anyone_waits, IsUnmarked}
use Rattle.lt_spec.specs.Promised.{WaitInRing, WaitBehindVoid}

-- the command is no change, or one to a mode that the old one covers
abbrev pub is_steady : Command → Bool
is_steady (Change s gives_up mode) = covers (one gives_up) mode
is_steady other = true

-- each of the locks is of a set with a smaller rank
abbrev pub are_ranked_below : (ℕ → ℕ) → ℕ → List Holding → Bool
are_ranked_below rank s locks = list_all (λ (lock : Holding). nat_lt (rank lock.set) (rank s)) locks

-- a client that may hold these locks waits only for a set with a greater rank than theirs: a `try`, an `unlock` and a
-- `withdraw` never wait, nor does a `drop`, be it of another client, nor a `change` to a mode that the old one covers
abbrev pub goes_up : (ℕ → ℕ) → List Holding → Command → Bool
goes_up rank locks (Lock s mode) = are_ranked_below rank s locks
goes_up rank locks other = is_steady other

-- from these locks on each command goes up, and after the last one none may be held
abbrev pub is_ranked_from : ScriptData → (ℕ → ℕ) → ℕ → List Holding → List Command → Bool
is_ranked_from script rank client locks [] = holds_none locks
is_ranked_from script rank client locks (command ∷ rest) =
    goes_up rank locks command && is_ranked_from script rank client (may_hold_after script client locks command) rest

-- each client waits only for sets of a greater rank than those of which it may hold locks, and releases all that it may hold
abbrev pub IsRanked : ScriptData → (ℕ → ℕ) → Type 0
IsRanked script rank = (client : ℕ) → client < length script.clients
    → IsTrue (is_ranked_from script rank client [] (commands_of script client))

-- a client that may hold these locks makes a `lock` only where they are none
abbrev pub asks_alone : List Holding → Command → Bool
asks_alone locks (Lock s mode) = holds_none locks
asks_alone locks other = is_steady other

-- from these locks on each command asks alone, and after the last one none may be held
abbrev pub is_alone_from : ScriptData → ℕ → List Holding → List Command → Bool
is_alone_from script client locks [] = holds_none locks
is_alone_from script client locks (command ∷ rest) =
    asks_alone locks command && is_alone_from script client (may_hold_after script client locks command) rest

-- no client makes a `lock` while it may hold a lock
abbrev pub NeverAsksHolding : ScriptData → Type 0
NeverAsksHolding script = (client : ℕ) → client < length script.clients
    → IsTrue (is_alone_from script client [] (commands_of script client))

-- the client may hold no lock after its last command, in whichever order it asks for sets
abbrev pub is_releasing : ScriptData → ℕ → Bool
is_releasing script client =
    list_all is_steady (commands_of script client) && holds_none (may_hold script client (length (commands_of script client)))

-- each client of the script releases all that it may hold
abbrev pub IsReleasing : ScriptData → Type 0
IsReleasing script = (client : ℕ) → client < length script.clients → IsTrue (is_releasing script client)

-- What holds of runs of ordered scripts, as statements.

-- a run of an ordered script that is at rest has no waiting client
abbrev pub OrderedFinish : Type 0
OrderedFinish = (script : ScriptData) (run : List Logged) → IsWhole script → IsRun script run → IsOrdered script → (k : ℕ)
    → IsTrue (is_at_rest script (world_after script (take k run)))
    → IsFalse (anyone_waits script (world_after script (take k run)))

-- and by its lines nothing is held then
abbrev pub OrderedRelease : Type 0
OrderedRelease = (script : ScriptData) (run : List Logged) → IsWhole script → IsRun script run → IsOrdered script → (k : ℕ)
    → IsTrue (is_at_rest script (world_after script (take k run))) → holdings script (lines_of (take k run)) ≡ []

-- a run of a script that any ranks of the sets keep in order has no waiting client at rest
abbrev pub RankedFinish : Type 0
RankedFinish = (script : ScriptData) (run : List Logged) (rank : ℕ → ℕ) → IsWhole script → IsRun script run
    → IsRanked script rank → (k : ℕ) → IsTrue (is_at_rest script (world_after script (take k run)))
    → IsFalse (anyone_waits script (world_after script (take k run)))

-- and by its lines nothing is held then
abbrev pub RankedRelease : Type 0
RankedRelease = (script : ScriptData) (run : List Logged) (rank : ℕ → ℕ) → IsWhole script → IsRun script run
    → IsRanked script rank → (k : ℕ) → IsTrue (is_at_rest script (world_after script (take k run)))
    → holdings script (lines_of (take k run)) ≡ []

-- a run of a script whose clients never ask while they may hold a lock has no waiting client at rest
abbrev pub AloneFinish : Type 0
AloneFinish = (script : ScriptData) (run : List Logged) → IsWhole script → IsRun script run → NeverAsksHolding script → (k : ℕ)
    → IsTrue (is_at_rest script (world_after script (take k run)))
    → IsFalse (anyone_waits script (world_after script (take k run)))

-- at each moment a client of a ranked script holds no more than what it may hold after the commands that it has made
abbrev pub RankedHold : Type 0
RankedHold = (script : ScriptData) (run : List Logged) (rank : ℕ → ℕ) → IsWhole script → IsRun script run
    → IsRanked script rank → (k client s : ℕ) (mode : Mode) → client < length script.clients → s < length script.sets
    → times_held (holdings script (lines_of (take k run))) (holding client s mode)
    ≤ times_held (may_hold script client (made_by script (world_after script (take k run)) client)) (holding client s mode)

-- at each moment a client of a ranked script that waits for a set holds locks of sets with smaller ranks alone
abbrev pub RankedWait : Type 0
RankedWait = (script : ScriptData) (run : List Logged) (rank : ℕ → ℕ) → IsWhole script → IsRun script run
    → IsRanked script rank → (k client s t : ℕ) (mode other : Mode) → client < length script.clients
    → s < length script.sets → t < length script.sets
    → WaitsFor script (world_after script (take k run)) client s mode
    → 1 ≤ times_held (holdings script (lines_of (take k run))) (holding client t other) → rank t < rank s

-- in a script whose clients release all that they may hold, in whichever order they ask, somebody waits at rest, where no
-- ask is given up, if and only if clients wait in a ring
abbrev pub StuckByRing : Type 0
StuckByRing = (script : ScriptData) (run : List Logged) → IsWhole script → IsRun script run → IsReleasing script → (k : ℕ)
    → IsTrue (is_at_rest script (world_after script (take k run))) → IsUnmarked (world_after script (take k run))
    → IsTrue (anyone_waits script (world_after script (take k run))) ↔ WaitInRing script (world_after script (take k run))

-- and where asks may be given up, if and only if clients wait in a ring, or a client waits behind a void ask
abbrev pub StuckByRingOrVoid : Type 0
StuckByRingOrVoid = (script : ScriptData) (run : List Logged) → IsWhole script → IsRun script run → IsReleasing script → (k : ℕ)
    → IsTrue (is_at_rest script (world_after script (take k run)))
    → IsTrue (anyone_waits script (world_after script (take k run)))
    ↔ (WaitInRing script (world_after script (take k run)) ⊎ WaitBehindVoid script (world_after script (take k run)))
