-- Ordered scripts: their clients ask for sets in order.
use Rattle.std.specs.Prelude.{◌≡◌, Bool, ℕ, List, Some, length, ◌↔◌, true, false, ◌&&◌, ◌==◌, not, nat_lt, Option, None, [], ◌∷◌, take, fold, IsTrue, IsFalse, ◌<◌, find}
use Rattle.std.specs.List.{list_all, range_with_len}
use Rattle.lt_modes.specs.declared.command.Command.{Command}
use Rattle.lt_modes.specs.declared.command.Command.TheVariants.{Lock, Try, Unlock, Change, DropAll, Withdraw}
use Rattle.lt_modes.specs.declared.event.Event.{Event}
use Rattle.lt_modes.specs.declared.event.Event.TheVariants.{Grant, Try as TryLine, Unlock as UnlockLine, Change as ChangeLine, DropAll as DropLine, Withdraw as WithdrawLine}
use Rattle.lt_modes.specs.Script.{ScriptData}
use Rattle.lt_spec.specs.Holdings.{Holding, after_line}
use Rattle.lt_spec.specs.NodeMove.{commands_of}

-- the line that answers the command where nothing stands against it
abbrev pub best_answer : ℕ → Command → Event
best_answer client (Lock s mode) = Grant client s mode
best_answer client (Try s mode) = TryLine client s mode true
best_answer client (Unlock s mode) = UnlockLine client s mode
best_answer client (Change s gives_up mode) = ChangeLine client s gives_up mode
best_answer client (DropAll other s) = DropLine client other s 0
best_answer client (Withdraw other s) = WithdrawLine client other s true

-- what a client that may hold these locks may hold after the command
abbrev pub may_hold_after : ScriptData → ℕ → List Holding → Command → List Holding
may_hold_after script client locks command = after_line script locks (best_answer client command)

-- what a client may hold after its first k commands
abbrev pub may_hold : ScriptData → ℕ → ℕ → List Holding
may_hold script client k = fold (may_hold_after script client) [] (take k (commands_of script client))

-- each of the locks is of a set with a smaller number
abbrev pub are_below : ℕ → List Holding → Bool
are_below s locks = list_all (λ (lock : Holding). nat_lt lock.set s) locks

-- a client that may hold these locks asks for a set with a greater number than theirs; it changes no mode, and drops
-- only its own locks
abbrev pub keeps_order : ℕ → List Holding → Command → Bool
keeps_order client locks (Lock s mode) = are_below s locks
keeps_order client locks (Try s mode) = are_below s locks
keeps_order client locks (Unlock s mode) = true
keeps_order client locks (Change s gives_up mode) = false
keeps_order client locks (DropAll other s) = other == client
keeps_order client locks (Withdraw other s) = true

-- there is no lock
abbrev pub holds_none : List Holding → Bool
holds_none [] = true
holds_none (lock ∷ rest) = false

-- from these locks on each command keeps the order, and after the last one none may be held
abbrev pub is_orderly_from : ScriptData → ℕ → List Holding → List Command → Bool
is_orderly_from script client locks [] = holds_none locks
is_orderly_from script client locks (command ∷ rest) =
    keeps_order client locks command && is_orderly_from script client (may_hold_after script client locks command) rest

-- the client asks for sets in order, and releases all that it may hold
abbrev pub is_orderly : ScriptData → ℕ → Bool
is_orderly script client = is_orderly_from script client [] (commands_of script client)

-- so does each client of the script
abbrev pub IsOrdered : ScriptData → Type 0
IsOrdered script = (client : ℕ) → client < length script.clients → IsTrue (is_orderly script client)

-- the least client that doesn't
abbrev pub first_bad : ScriptData → Option ℕ
first_bad script = find (λ client. not (is_orderly script client)) (range_with_len 0 (length script.clients))

-- a script is ordered exactly where no client is named; the client that is named doesn't ask in order, and all before it do
abbrev pub FirstBadIsExact : Type 0
FirstBadIsExact = (script : ScriptData) → ((first_bad script ≡ None) ↔ IsOrdered script)
    × ((client : ℕ) → first_bad script ≡ Some client
    → (client < length script.clients) × IsFalse (is_orderly script client)
    × ((earlier : ℕ) → earlier < client → IsTrue (is_orderly script earlier)))
