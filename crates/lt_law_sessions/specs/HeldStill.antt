-- When a lock is held still: what each command and each reply does to it, and locks that were granted and are kept.
use Rattle.std.specs.Prelude.{◌≡◌, ◌≢◌, ◌++◌, ◌∷◌, [], true, false, ℕ, List, Some, slice_get, length}
use Rattle.lt_modes.specs.declared.command.Command.{Command}
use Rattle.lt_modes.specs.declared.command.Command.TheVariants.{Lock, Try, Unlock, Change, DropAll, Withdraw}
use Rattle.lt_modes.specs.declared.event.Event.TheVariants as event
use Rattle.lt_modes.specs.declared.mode.Mode.{Mode}
use Rattle.lt_modes.specs.Modes.{conflicts}
use Rattle.lt_modes.specs.Script.{ScriptData}
use Rattle.lt_spec.specs.Holdings.{Holding, holding, same_holding, is_dropped}
use Rattle.lt_spec.specs.World.{Logged}
use Rattle.lt_live.specs.declared.ends.Session.{Session}
use Rattle.lt_live.specs.declared.reply.Reply.{Reply}
use Rattle.lt_live.specs.declared.reply.Reply.TheVariants.{True, False, Changed, Granted, NotHeld, Busy, Unlocked, Dropped, Withdrawn, Withheld}
use Rattle.lt_live.specs.Live.{IsServedRun}
use Rattle.lt_live.specs.Seats.{reply_to}
use Rattle.lt_live.specs.Words.{submitted, polled}
use Rattle.lt_law_sessions.specs.SessionLaws.{may_take_away, leaves_locks, has_after, StillHolds}

-- which command may take which lock away: an unlock, a change of that lock, and a drop of its client in its family
pub record TakingRows : Type 0 where
  pub lock : (script : ScriptData) (client set : ℕ) (lock : Holding) (mode : Mode)
      → may_take_away script client lock (Lock set mode) ≡ false
  pub tried : (script : ScriptData) (client set : ℕ) (lock : Holding) (mode : Mode)
      → may_take_away script client lock (Try set mode) ≡ false
  pub given_up : (script : ScriptData) (client other set : ℕ) (lock : Holding)
      → may_take_away script client lock (Withdraw other set) ≡ false
  pub unlock : (script : ScriptData) (client set : ℕ) (lock : Holding) (mode : Mode)
      → may_take_away script client lock (Unlock set mode) ≡ same_holding lock (holding client set mode)
  pub change : (script : ScriptData) (client set : ℕ) (lock : Holding) (old mode : Mode)
      → may_take_away script client lock (Change set old mode) ≡ same_holding lock (holding client set old)
  pub drop : (script : ScriptData) (client other set : ℕ) (lock : Holding)
      → may_take_away script client lock (DropAll other set) ≡ is_dropped script other set lock

-- which replies leave all locks as they were
pub record LeavingRows : Type 0 where
  pub untried : leaves_locks False ≡ true
  pub not_held : leaves_locks NotHeld ≡ true
  pub busy : leaves_locks Busy ≡ true
  pub withdrawn : leaves_locks Withdrawn ≡ true
  pub withheld : leaves_locks Withheld ≡ true
  pub granted : leaves_locks Granted ≡ false
  pub tried : leaves_locks True ≡ false
  pub changed : leaves_locks Changed ≡ false
  pub unlocked : leaves_locks Unlocked ≡ false
  pub dropped : (count : ℕ) → leaves_locks (Dropped count) ≡ false

-- the command drops nothing
abbrev pub IsNoDrop : Command → Type 0
IsNoDrop (DropAll other set) = ⊥
IsNoDrop other = Unit {0}

-- a lock isn't taken by what another client submits, unless that drops it
abbrev pub OthersTakeNothing : Type 0
OthersTakeNothing = (script : ScriptData) (client other set : ℕ) (mode : Mode) (command : Command) → other ≢ client
    → IsNoDrop command → may_take_away script other (holding client set mode) command ≡ false

-- a lock is had whose last command is this one, and is answered so, whatever was before
abbrev pub IsHadBy : Command → Reply → ℕ → ℕ → Mode → Type 0
IsHadBy command reply client set mode = (script : ScriptData) (commands : List Command) (replies : List Reply)
    → length replies ≡ length commands
    → has_after script client (holding client set mode) (commands ++ command ∷ []) (replies ++ reply ∷ []) false ≡ true

-- a try that is told True, and a change that is told Changed, give the lock
abbrev pub TriedIsHad : Type 0
TriedIsHad = (client set : ℕ) (mode : Mode) → IsHadBy (Try set mode) True client set mode

abbrev pub ChangedIsHad : Type 0
ChangedIsHad = (client set : ℕ) (old mode : Mode) → IsHadBy (Change set old mode) Changed client set mode

-- what is had by the own session is held still, whatever other clients submitted that drops nothing of it
abbrev pub HeldBesideOthers : Type 0
HeldBesideOthers = (script : ScriptData) (sessions : List Session) (client set : ℕ) (mode : Mode) (s : Session)
    → has_after script client (holding client set mode) (submitted s) (polled s) false ≡ true
    → ((other whose from k : ℕ) (t : Session) → other ≢ client → slice_get sessions other ≡ Some t
    → slice_get (submitted t) k ≡ Some (DropAll whose from)
    → is_dropped script whose from (holding client set mode) ≡ false)
    → StillHolds script sessions client s (holding client set mode)

-- Two locks that were granted and not given up since.

-- the command neither gives up nor changes a lock of the set, and drops nothing
abbrev pub SparesSet : ℕ → Command → Type 0
SparesSet set (Lock s mode) = Unit {0}
SparesSet set (Try s mode) = Unit {0}
SparesSet set (Withdraw other s) = Unit {0}
SparesSet set (Unlock s mode) = s ≢ set
SparesSet set (Change s old mode) = s ≢ set
SparesSet set (DropAll other s) = ⊥

abbrev pub AllSpareSet : ℕ → List Command → Type 0
AllSpareSet set [] = Unit {0}
AllSpareSet set (command ∷ rest) = SparesSet set command × AllSpareSet set rest

-- the session polled `Granted` for a lock, and every command that it submitted after that spares the set
pub record IsGranted (s : Session) (set : ℕ) (mode : Mode) : Type 0 where
  pub before : List Command
  pub later : List Command
  pub told : List Reply
  pub more : List Reply
  pub asked : submitted s ≡ before ++ Lock set mode ∷ later
  pub answered : polled s ≡ told ++ Granted ∷ more
  pub as_many : length told ≡ length before
  pub spared : AllSpareSet set later

-- no client dropped anything
abbrev pub NobodyDropped : List Session → Type 0
NobodyDropped sessions = (client k : ℕ) (s : Session) (command : Command) → slice_get sessions client ≡ Some s
    → slice_get (submitted s) k ≡ Some command → IsNoDrop command

-- where nobody dropped, locks of one set that were granted to two clients, and not given up since, don't conflict
abbrev pub GrantedExclude : Type 0
GrantedExclude = (first script : ScriptData) (sessions : List Session) (run : List Logged)
    → IsServedRun first sessions script run → length sessions ≡ length first.clients → NobodyDropped sessions
    → (a b set : ℕ) (s t : Session) (m n : Mode) → a ≢ b → slice_get sessions a ≡ Some s
    → slice_get sessions b ≡ Some t → IsGranted s set m → IsGranted t set n → conflicts m n ≡ false

-- which reply a line of the client is
pub record ReplyRows : Type 0 where
  pub granted : (client set : ℕ) (mode : Mode) → reply_to client (event.Grant client set mode) ≡ Some Granted
  pub tried : (client set : ℕ) (mode : Mode) → reply_to client (event.Try client set mode true) ≡ Some True
  pub untried : (client set : ℕ) (mode : Mode) → reply_to client (event.Try client set mode false) ≡ Some False
  pub unlocked : (client set : ℕ) (mode : Mode) → reply_to client (event.Unlock client set mode) ≡ Some Unlocked
  pub not_held : (client set : ℕ) (mode : Mode) → reply_to client (event.NotHeld client set mode) ≡ Some NotHeld
  pub changed : (client set : ℕ) (old mode : Mode) → reply_to client (event.Change client set old mode) ≡ Some Changed
  pub dropped : (client other set count : ℕ) → reply_to client (event.DropAll client other set count) ≡ Some (Dropped count)
