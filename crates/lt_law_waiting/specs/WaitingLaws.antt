-- Who waits for whom at rest, as statements.
use Rattle.std.specs.Prelude.{◌≡◌, ◌⊎◌, ◌↔◌, ◌<◌, ◌==◌, ◌&&◌, ◌||◌, not, Bool, false, Option, None, Some, ℕ, List, length, take, Contains, IsTrue, IsFalse}
use Rattle.lt_modes.specs.declared.event.Event.{Event}
use Rattle.lt_modes.specs.declared.ask.Ask.{Ask}
use Rattle.lt_modes.specs.Script.{ScriptData}
use Rattle.lt_modes.specs.Waiting.{pending_ask}
use Rattle.lt_lists.specs.Below.{any_below}
use Rattle.lt_spec.specs.Facts.{state_at}
use Rattle.lt_spec.specs.Holdings.{lines_of, holds_against, waits_behind, waits_for, waits_behind_void}
use Rattle.lt_spec.specs.World.{Logged, World, world_after, IsRun, IsUnmarked, is_waiting, is_at_rest, anyone_waits}
use Rattle.lt_spec.specs.NodeMove.{IsWhole, home}
use Rattle.lt_spec.specs.Rings.{WaitsLine, EndsLine, VoidLine, report, waits_report}
use Rattle.lt_spec.specs.Promised.{HasEnded, HoldsUp, WaitInRing, WaitBehindVoid}

-- in any world a client that waits for another one has an unanswered ask
abbrev pub OnlyWaitersWait : Type 0
OnlyWaitersWait = (script : ScriptData) (w : World) (client other : ℕ)
    → IsTrue (waits_for script w client other) → IsTrue (is_waiting script w client)

-- and so has one that waits behind a void ask
abbrev pub OnlyWaitersAreBehind : Type 0
OnlyWaitersAreBehind = (script : ScriptData) (w : World) (client other : ℕ)
    → IsTrue (waits_behind_void script w client other) → IsTrue (is_waiting script w client)

-- at rest each waiting client waits for some client, or behind a void ask of some client
abbrev pub EachHasReason : Type 0
EachHasReason = (script : ScriptData) (run : List Logged) → IsWhole script → IsRun script run → (k client : ℕ)
    → client < length script.clients → IsTrue (is_at_rest script (world_after script (take k run)))
    → IsTrue (is_waiting script (world_after script (take k run)) client)
    → (other : ℕ) × (other < length script.clients)
    × (IsTrue (waits_for script (world_after script (take k run)) client other)
    ⊎ IsTrue (waits_behind_void script (world_after script (take k run)) client other))

-- at rest, where no ask is given up, each waiting client waits for some client
abbrev pub EachWaitsForSome : Type 0
EachWaitsForSome = (script : ScriptData) (run : List Logged) → IsWhole script → IsRun script run → (k client : ℕ)
    → client < length script.clients → IsTrue (is_at_rest script (world_after script (take k run)))
    → IsUnmarked (world_after script (take k run))
    → IsTrue (is_waiting script (world_after script (take k run)) client)
    → (other : ℕ) × (other < length script.clients) × IsTrue (waits_for script (world_after script (take k run)) client other)

-- at rest a client that some client waits for, and that doesn't wait itself, has ended and holds a lock against it
abbrev pub EndedHold : Type 0
EndedHold = (script : ScriptData) (run : List Logged) → IsWhole script → IsRun script run → (k waiter client : ℕ)
    → waiter < length script.clients → client < length script.clients
    → IsTrue (is_at_rest script (world_after script (take k run)))
    → IsTrue (waits_for script (world_after script (take k run)) waiter client)
    → IsFalse (is_waiting script (world_after script (take k run)) client)
    → HasEnded script (world_after script (take k run)) client
    × HoldsUp script (lines_of (take k run)) (world_after script (take k run)) waiter client

-- a client has ended and holds a lock against one that waits
abbrev pub EndedHoldsUp : ScriptData → List Event → World → Type 0
EndedHoldsUp script lines w = (waiter last : ℕ) × (waiter < length script.clients) × (last < length script.clients)
    × HasEnded script w last × HoldsUp script lines w waiter last

-- at rest somebody waits if and only if clients wait in a ring, or one that has ended holds a lock against one that waits, or
-- a client waits behind a void ask
abbrev pub WaitersHaveReasons : Type 0
WaitersHaveReasons = (script : ScriptData) (run : List Logged) → IsWhole script → IsRun script run → (k : ℕ)
    → IsTrue (is_at_rest script (world_after script (take k run)))
    → IsTrue (anyone_waits script (world_after script (take k run)))
    ↔ (WaitInRing script (world_after script (take k run))
    ⊎ (EndedHoldsUp script (lines_of (take k run)) (world_after script (take k run))
    ⊎ WaitBehindVoid script (world_after script (take k run))))

-- where no ask is given up, somebody waits at rest if and only if clients wait in a ring, or one that has ended holds a lock
-- against one that waits
abbrev pub WaitersAreExplained : Type 0
WaitersAreExplained = (script : ScriptData) (run : List Logged) → IsWhole script → IsRun script run → (k : ℕ)
    → IsTrue (is_at_rest script (world_after script (take k run)))
    → IsUnmarked (world_after script (take k run))
    → IsTrue (anyone_waits script (world_after script (take k run)))
    ↔ (WaitInRing script (world_after script (take k run))
    ⊎ EndedHoldsUp script (lines_of (take k run)) (world_after script (take k run)))

-- in the report of any world each client has its line `waits` with each client for which it waits, and with no other
abbrev pub PairsAreReported : Type 0
PairsAreReported = (script : ScriptData) (w : World) (client other : ℕ)
    → Contains (waits_report script w) (WaitsLine client other)
    ↔ ((client < length script.clients) × (other < length script.clients) × IsTrue (waits_for script w client other))

-- in the report of any world each client has its line `void` with each client behind whose void ask it waits, and with no other
abbrev pub VoidPairsAreReported : Type 0
VoidPairsAreReported = (script : ScriptData) (w : World) (client other : ℕ)
    → Contains (waits_report script w) (VoidLine client other)
    ↔ ((client < length script.clients) × (other < length script.clients) × IsTrue (waits_behind_void script w client other))

-- of each line `ends` at rest: the first client waits, and the second one waits behind a void ask, or has ended and holds a lock
-- against a client that waits
abbrev pub EndsHaveReasons : Type 0
EndsHaveReasons = (script : ScriptData) (run : List Logged) → IsWhole script → IsRun script run → (k client last : ℕ)
    → IsTrue (is_at_rest script (world_after script (take k run)))
    → Contains (waits_report script (world_after script (take k run))) (EndsLine client last)
    → IsTrue (is_waiting script (world_after script (take k run)) client)
    × (((other : ℕ) × Contains (waits_report script (world_after script (take k run))) (VoidLine last other))
    ⊎ (HasEnded script (world_after script (take k run)) last
    × (waiter : ℕ) × (waiter < length script.clients)
    × HoldsUp script (lines_of (take k run)) (world_after script (take k run)) waiter last))

-- of each line `ends` at rest, where no ask is given up: the first client waits, the second one has ended and holds a lock
-- against a client that waits
abbrev pub EndsAreReported : Type 0
EndsAreReported = (script : ScriptData) (run : List Logged) → IsWhole script → IsRun script run → (k client last : ℕ)
    → IsTrue (is_at_rest script (world_after script (take k run)))
    → IsUnmarked (world_after script (take k run))
    → Contains (waits_report script (world_after script (take k run))) (EndsLine client last)
    → IsTrue (is_waiting script (world_after script (take k run)) client)
    × HasEnded script (world_after script (take k run)) last
    × (waiter : ℕ) × (waiter < length script.clients)
    × HoldsUp script (lines_of (take k run)) (world_after script (take k run)) waiter last

-- at rest, where no clients wait in a ring, each waiting client has its line `ends`, or a line `void`
abbrev pub WaitersHaveLines : Type 0
WaitersHaveLines = (script : ScriptData) (run : List Logged) → IsWhole script → IsRun script run → (k client : ℕ)
    → client < length script.clients → IsTrue (is_at_rest script (world_after script (take k run)))
    → (WaitInRing script (world_after script (take k run)) → ⊥)
    → IsTrue (is_waiting script (world_after script (take k run)) client)
    → (other : ℕ) × (Contains (waits_report script (world_after script (take k run))) (EndsLine client other)
    ⊎ Contains (waits_report script (world_after script (take k run))) (VoidLine client other))

-- at rest, where no ask is given up and no clients wait in a ring, each waiting client has its line `ends`
abbrev pub WaitersAreReported : Type 0
WaitersAreReported = (script : ScriptData) (run : List Logged) → IsWhole script → IsRun script run → (k client : ℕ)
    → client < length script.clients → IsTrue (is_at_rest script (world_after script (take k run)))
    → IsUnmarked (world_after script (take k run))
    → (WaitInRing script (world_after script (take k run)) → ⊥)
    → IsTrue (is_waiting script (world_after script (take k run)) client)
    → (last : ℕ) × Contains (waits_report script (world_after script (take k run))) (EndsLine client last)

-- Where no ask is given up, all is as it is without void asks.

-- the other client's lock, or any ask of it, stands in the way of the ask, if there is one
abbrev pub stands_if : ScriptData → World → ℕ → ℕ → Option Ask → Bool
stands_if script w s other None = false
stands_if script w s other (Some ask) = holds_against script w s ask.mode other || waits_behind script w s other ask.client

-- a client waits for those whose lock or ask stands in the way of its unanswered ask
abbrev pub UnmarkedWaits : Type 0
UnmarkedWaits = (script : ScriptData) (w : World) → IsUnmarked w → (client other : ℕ)
    → waits_for script w client other
    ≡ (not (client == other)
    && any_below (length script.sets) (λ s. stands_if script w s other (pending_ask (state_at w s (home script client)) client)))

-- and the report has no line `void`
abbrev pub UnmarkedReport : Type 0
UnmarkedReport = (script : ScriptData) (w : World) → IsUnmarked w
    → waits_report script w ≡ report (length script.clients) (waits_for script w)
