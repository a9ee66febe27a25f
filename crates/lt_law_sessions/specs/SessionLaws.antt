-- What a client holds still, by what was submitted and polled at the sessions alone.
use Rattle.std.specs.Prelude.{◌≡◌, ◌≢◌, ◌&&◌, ◌||◌, not, Bool, true, false, ℕ, List, [], ◌∷◌, Some, slice_get, ◌≤◌, ◌++◌, length}
use Rattle.lt_modes.specs.declared.command.Command.{Command}
use Rattle.lt_modes.specs.declared.command.Command.TheVariants.{Lock, Try, Unlock, Change, DropAll, Withdraw}
use Rattle.lt_modes.specs.Script.{ScriptData}
use Rattle.lt_modes.specs.declared.mode.Mode.{Mode}
use Rattle.lt_modes.specs.Modes.{conflicts}
use Rattle.lt_spec.specs.Holdings.{Holding, holding, same_holding, is_dropped, holdings, lines_of, times_held}
use Rattle.lt_spec.specs.World.{Logged}
use Rattle.lt_live.specs.declared.reply.Reply.{Reply}
use Rattle.lt_live.specs.declared.reply.Reply.TheVariants.{True, False, Changed, Granted, NotHeld, Busy, Withdrawn, Withheld}
use Rattle.lt_live.specs.declared.ends.Session.{Session}
use Rattle.lt_live.specs.Words.{submitted, polled}
use Rattle.lt_live.specs.Live.{IsServedRun}

-- once it is made, this command of the client may take the lock away
abbrev pub may_take_away : ScriptData → ℕ → Holding → Command → Bool
may_take_away script client lock (Lock set mode) = false
may_take_away script client lock (Try set mode) = false
may_take_away script client lock (Unlock set mode) = same_holding lock (holding client set mode)
may_take_away script client lock (Change set gives_up mode) = same_holding lock (holding client set gives_up)
may_take_away script client lock (DropAll other set) = is_dropped script other set lock
may_take_away script client lock (Withdraw other set) = false

-- a command with this reply has left all locks as they were
abbrev pub leaves_locks : Reply → Bool
leaves_locks False = true
leaves_locks NotHeld = true
leaves_locks Busy = true
leaves_locks Withdrawn = true
leaves_locks Withheld = true
leaves_locks reply = false

-- this command of the client, which has this reply, may have taken the lock away
abbrev pub took_away : ScriptData → ℕ → Holding → Command → Reply → Bool
took_away script client lock command reply = not (leaves_locks reply) && may_take_away script client lock command

-- this reply to this command of the client says that it has the lock now
abbrev pub gives : ℕ → Holding → Command → Reply → Bool
gives client lock (Lock set mode) Granted = same_holding lock (holding client set mode)
gives client lock (Try set mode) True = same_holding lock (holding client set mode)
gives client lock (Change set gives_up mode) Changed = same_holding lock (holding client set mode)
gives client lock command reply = false

-- whether the client has the lock after these commands and the replies to the first of them, where it had it before,
-- or not: a command that has no reply yet counts if it may take the lock, and not if it may give it; one that was
-- refused or given up takes nothing
abbrev pub has_after : ScriptData → ℕ → Holding → List Command → List Reply → Bool → Bool
has_after script client lock [] replies has = has
has_after script client lock (c ∷ cs) [] has = has_after script client lock cs [] (has && not (may_take_away script client lock c))
has_after script client lock (c ∷ cs) (r ∷ rs) has =
    has_after script client lock cs rs (gives client lock c r || (has && not (took_away script client lock c r)))

-- by what was submitted and polled at its session the client has the lock; and no command that was submitted at
-- another session drops it, whether it was made or not
pub record StillHolds (script : ScriptData) (sessions : List Session) (client : ℕ) (s : Session) (lock : Holding) : Type 0 where
  pub has : has_after script client lock (submitted s) (polled s) false ≡ true
  pub others : (other : ℕ) (t : Session) (k : ℕ) (c : Command) → other ≢ client → slice_get sessions other ≡ Some t
      → slice_get (submitted t) k ≡ Some c → may_take_away script other lock c ≡ false

-- That what clients hold still is held, and doesn't conflict, as laws.

-- what a client holds still, by what was submitted and polled at the sessions, it holds after the run that serves them
abbrev pub StillIsHeld : Type 0
StillIsHeld = (first script : ScriptData) (sessions : List Session) (run : List Logged) → IsServedRun first sessions script run
    → length sessions ≡ length first.clients
    → (client : ℕ) (s : Session) (lock : Holding) → slice_get sessions client ≡ Some s → StillHolds first sessions client s lock
    → 1 ≤ times_held (holdings script (lines_of run)) lock

-- locks of one set that two clients hold still don't conflict
abbrev pub SessionsExclude : Type 0
SessionsExclude = (first script : ScriptData) (sessions : List Session) (run : List Logged) → IsServedRun first sessions script run
    → length sessions ≡ length first.clients
    → (a b : ℕ) (s t : Session) → a ≢ b → slice_get sessions a ≡ Some s → slice_get sessions b ≡ Some t
    → (set : ℕ) (m n : Mode) → StillHolds first sessions a s (holding a set m) → StillHolds first sessions b t (holding b set n)
    → conflicts m n ≡ false

-- a lock whose last command is answered by `Granted` is had, whatever was before
abbrev pub GrantedIsHad : Type 0
GrantedIsHad = (script : ScriptData) (client set : ℕ) (mode : Mode) (commands : List Command) (replies : List Reply) → length replies ≡ length commands
    → has_after script client (holding client set mode) (commands ++ Lock set mode ∷ []) (replies ++ Granted ∷ []) false ≡ true

-- and it is had still after a further command that has no reply, exactly if that may not take it
abbrev pub HadUnlessTaken : Type 0
HadUnlessTaken = (script : ScriptData) (client : ℕ) (lock : Holding) (commands : List Command) (replies : List Reply) (command : Command)
    → length replies ≤ length commands
    → has_after script client lock (commands ++ command ∷ []) replies false
    ≡ (has_after script client lock commands replies false && not (may_take_away script client lock command))

-- and after a further command that was refused or given up it has what it had: so the old lock after a `change` that
-- was given up
abbrev pub HadAsBefore : Type 0
HadAsBefore = (script : ScriptData) (client : ℕ) (lock : Holding) (commands : List Command) (replies : List Reply) (command : Command) (reply : Reply)
    → length replies ≡ length commands → leaves_locks reply ≡ true
    → has_after script client lock (commands ++ command ∷ []) (replies ++ reply ∷ []) false
    ≡ has_after script client lock commands replies false
