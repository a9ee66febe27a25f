-- How many locks the lines of a run add.
use Rattle.std.specs.Prelude.{ℕ, List, sum_by, ◌≡◌, ◌≤◌, ◌<◌, length, IsTrue, All, Contains, ◌≢◌, take}
use Rattle.lt_modes.specs.declared.event.Event.{Event}
use Rattle.lt_modes.specs.declared.event.Event.TheVariants.{Grant, Wait, Try, Unlock, NotHeld, Change, DropAll, Busy, Copy, Freeze, Token, Try as TryLine, Unlock as UnlockLine, Change as ChangeLine, DropAll as Dropped, Withdraw as WithdrawLine, Withdrawn, Void, Withheld}
use Rattle.lt_modes.specs.declared.ask.Ask.{Ask}
use Rattle.lt_modes.specs.declared.parts.Row.{Row}
use Rattle.lt_modes.specs.declared.moves.Move.{Move}
use Rattle.lt_modes.specs.declared.moves.Step.{Step}
use Rattle.lt_modes.specs.declared.moves.Step.TheVariants.{Act, Take}
use Rattle.lt_modes.specs.Script.{ScriptData}
use Rattle.lt_modes.specs.State.{SetState, Body, AskBody, TellBody, CopyBody, TokenBody, FreezeBody, Letter, Parked, ParkedAsk, ParkedTell}
use Rattle.lt_modes.specs.Serving.{queue_of}
use Rattle.lt_modes.specs.Fits.{is_at_home, asks_here, numbers_of}
use Rattle.lt_modes.specs.Sound.{SoundRow, SoundParked}
use Rattle.lt_lists.specs.Below.{one_if}
use Rattle.lt_spec.specs.NodeMove.{home, IsWhole}
use Rattle.lt_spec.specs.World.{Logged, World, is_enabled, after, world_after, IsRun}
use Rattle.lt_spec.specs.Facts.{state_at}
use Rattle.lt_spec.specs.Holdings.{lines_of}

-- how many locks the line adds
abbrev pub adds : Event → ℕ
adds (Grant client s mode) = 1
adds (Wait client s mode) = 0
adds (Try client s mode got) = one_if got
adds (Unlock client s mode) = 0
adds (NotHeld client s mode) = 0
adds (Change client s gives_up mode) = 1
adds (DropAll client other s count) = 0
adds (Busy client other s) = 0
adds (WithdrawLine client other s got) = 0
adds (Withdrawn client s mode) = 0
adds (Void client s mode) = 0
adds (Withheld client s mode) = 0
adds (Copy s to client mode) = 0
adds (Freeze s to number modes) = 0
adds (Token s to epoch) = 0

-- how many locks the lines add together
abbrev pub added_by : List Event → ℕ
added_by lines = sum_by adds lines

-- Whose locks and asks a node has, which sets letters are of, and what the lines of a move name.

-- the row is of a client of node q, and holds some lock
pub record IsRowAtHome (script : ScriptData) (q : ℕ) (row : Row) : Type 0 where
  pub client : row.client < length script.clients
  pub home : home script row.client ≡ q
  pub count : 1 ≤ row.count

-- a client of its node made the ask, in a move of that node
pub record IsAskAtHome (script : ScriptData) (ask : Ask) : Type 0 where
  pub client : ask.client < length script.clients
  pub home : home script ask.client ≡ ask.node
  pub maker : ask.stamp.node ≡ ask.node

-- node q's own ask
abbrev pub IsAskOf : ScriptData → ℕ → Ask → Type 0
IsAskOf script q ask = IsAskAtHome script ask × (ask.node ≡ q)

-- the tell is of a node of the script
abbrev pub IsParkedAtHome : ScriptData → Parked → Type 0
IsParkedAtHome script (ParkedAsk ask) = IsAskAtHome script ask
IsParkedAtHome script (ParkedTell tell) = tell.node < script.nodes

-- a letter to q that says this: a copy goes to the node of its ask
abbrev pub IsBodyAtHome : ScriptData → ℕ → Body → Type 0
IsBodyAtHome script q (AskBody ask marked) = IsAskAtHome script ask
IsBodyAtHome script q (TellBody tell) = tell.node < script.nodes
IsBodyAtHome script q (CopyBody ask) = IsAskOf script q ask
IsBodyAtHome script q (TokenBody desk) = All (IsAskAtHome script) desk.queue
IsBodyAtHome script q (FreezeBody number modes) = Unit {0}

-- node q has rows and unanswered asks of its own clients, and all asks there are at home
pub record IsStateAtHome (script : ScriptData) (q : ℕ) (s : SetState) : Type 0 where
  pub rows : All (IsRowAtHome script q) s.held
  pub pending : All (IsAskOf script q) s.pending
  pub parked : All (IsParkedAtHome script) s.parked
  pub queue : All (IsAskAtHome script) (queue_of s)

-- the letter is of a set of the script
pub record IsLetterAtHome (script : ScriptData) (q : ℕ) (letter : Letter) : Type 0 where
  pub set : letter.set < length script.sets
  pub body : IsBodyAtHome script q letter.body

-- so it is at each node, for each set, and of each letter on its way
pub record Homes (script : ScriptData) (w : World) : Type 0 where
  pub states : (x s : ℕ) → IsStateAtHome script x (state_at w s x)
  pub letters : (p q : ℕ) (letter : Letter) → Contains (w.mail p q) letter → IsLetterAtHome script q letter

-- an unanswered ask of node q was made by a client of it, in a move of it
abbrev pub IsSoundOwn : ScriptData → ℕ → Ask → Type 0
IsSoundOwn script q ask = IsTrue (is_at_home (numbers_of script) ask) × (ask.node ≡ q) × (ask.stamp.node ≡ q)

-- the part of a sound state that tells whose its rows and asks are
pub record HasSoundHomes (script : ScriptData) (q : ℕ) (s : SetState) : Type 0 where
  pub rows : All (SoundRow (numbers_of script) q) s.held
  pub pending : All (IsSoundOwn script q) s.pending
  pub here : All (λ (ask : Ask). IsTrue (is_at_home (numbers_of script) ask)) (asks_here s)
  pub parked : All (SoundParked (numbers_of script)) s.parked

-- who makes the step is of the script
abbrev pub HasMaker : ScriptData → Step → Type 0
HasMaker script (Act client) = client < length script.clients
HasMaker script (Take from) = from < script.nodes

-- what the move names is of the script, and its clock isn't above the bound
pub record IsMoveWithin (script : ScriptData) (bound : ℕ) (made : Move) : Type 0 where
  pub clock : made.stamp.clock ≤ bound
  pub node : made.stamp.node < script.nodes
  pub maker : HasMaker script made.step

-- what the line names is of the script, and its numbers aren't above the bound
abbrev pub IsLineWithin : ScriptData → ℕ → Event → Type 0
IsLineWithin script bound (Grant client s mode) = (client < length script.clients) × (s < length script.sets)
IsLineWithin script bound (Wait client s mode) = (client < length script.clients) × (s < length script.sets)
IsLineWithin script bound (TryLine client s mode got) = (client < length script.clients) × (s < length script.sets)
IsLineWithin script bound (UnlockLine client s mode) = (client < length script.clients) × (s < length script.sets)
IsLineWithin script bound (NotHeld client s mode) = (client < length script.clients) × (s < length script.sets)
IsLineWithin script bound (ChangeLine client s gives_up mode) = (client < length script.clients) × (s < length script.sets)
IsLineWithin script bound (Dropped client other s count) =
    (client < length script.clients) × (other < length script.clients) × (s < length script.sets) × (count ≤ bound)
IsLineWithin script bound (Busy client other s) =
    (client < length script.clients) × (other < length script.clients) × (s < length script.sets)
IsLineWithin script bound (WithdrawLine client other s got) =
    (client < length script.clients) × (other < length script.clients) × (s < length script.sets)
IsLineWithin script bound (Withdrawn client s mode) = (client < length script.clients) × (s < length script.sets)
IsLineWithin script bound (Void client s mode) = (client < length script.clients) × (s < length script.sets)
IsLineWithin script bound (Withheld client s mode) = (client < length script.clients) × (s < length script.sets)
IsLineWithin script bound (Copy s to client mode) = (s < length script.sets) × (to < script.nodes) × (client < length script.clients)
IsLineWithin script bound (Freeze s to number modes) = (s < length script.sets) × (to < script.nodes) × (number ≤ bound)
IsLineWithin script bound (Token s to epoch) = (s < length script.sets) × (to < script.nodes) × (epoch ≤ bound)

-- the entry of a move and its lines
pub record IsEntryWithin (script : ScriptData) (bound : ℕ) (entry : Logged) : Type 0 where
  pub made : IsMoveWithin script bound entry.made
  pub lines : All (IsLineWithin script bound) entry.events

-- Whose locks and asks a node has, as laws over moves and runs.

-- an enabled move keeps locks and asks at home
abbrev pub HomesKept : Type 0
HomesKept = (script : ScriptData) (w : World) → IsWhole script → Homes script w
    → (q : ℕ) (step : Step) → IsTrue (is_enabled script w q step) → Homes script (after script w q step)

-- and so it is in every run
abbrev pub HomesInRuns : Type 0
HomesInRuns = (script : ScriptData) (run : List Logged) → IsWhole script → IsRun script run → (k : ℕ)
    → Homes script (world_after script (take k run))

-- what the moves of a run and their lines name is of the script, and none of their numbers is above the number of moves
abbrev pub LinesInRuns : Type 0
LinesInRuns = (script : ScriptData) (run : List Logged) → IsWhole script → IsRun script run
    → All (IsEntryWithin script (length run)) run

-- the lines of a run add no more locks than there are moves
abbrev pub FewAdded : Type 0
FewAdded = (script : ScriptData) (run : List Logged) → IsWhole script → IsRun script run → added_by (lines_of run) ≤ length run

-- in a run unanswered asks of different nodes have different stamps, also for different sets
abbrev pub StampsApart : Type 0
StampsApart = (script : ScriptData) (run : List Logged) → IsWhole script → IsRun script run → (k s t x y : ℕ) (a b : Ask)
    → Contains (state_at (world_after script (take k run)) s x).pending a
    → Contains (state_at (world_after script (take k run)) t y).pending b → x ≢ y → a.stamp ≢ b.stamp

-- what is at home is sound, as far as homes go
abbrev pub HomesSound : Type 0
HomesSound = (script : ScriptData) (w : World) → IsWhole script → Homes script w
    → (x s : ℕ) → HasSoundHomes script x (state_at w s x)
