-- Small inputs, and what follows from each answer to them, in literals.
use Rattle.std.specs.Prelude.{◌≡◌, ◌<◌, ℕ, List, [], ◌∷◌, ◌++◌, Some, take, length, codes, false, true}
use Rattle.lt_modes.specs.declared.mode.Mode.TheVariants.{Read, Write}
use Rattle.lt_modes.specs.declared.command.Command.TheVariants.{Lock, Try}
use Rattle.lt_modes.specs.declared.moves.Step.TheVariants.{Act}
use Rattle.lt_modes.specs.Script.{ScriptData}
use Rattle.lt_modes.specs.declared.event.Event.TheVariants.{Try as Tried}
use Rattle.lt_spec.specs.World.{start, logged, Logged, IsRun}
use Rattle.lt_spec.specs.FixedOrder.{first_run}
use Rattle.lt_spec.specs.declared.moves.TheConstants.{MAX_MOVES}
use Rattle.lt_gen.specs.Generator.{seeded}
use Rattle.lt_merge.specs.Merging.{AreRising}
use Rattle.lt_words.specs.declared.command.Command.{Command}
use Rattle.lt_words.specs.declared.command.Command.TheVariants.{Run, SimFirst, Sim}
use Rattle.lt_serve.specs.declared.status.Status.{Status}
use Rattle.lt_serve.specs.declared.status.Status.TheVariants.{Done, Stuck, WriteFault, Cut}
use Rattle.lt_serve.specs.TopCall.{Did}
use Rattle.lt_serve.specs.declared.schedule.Schedule.TheVariants.{Drawn}
use Rattle.lt_serve.specs.Schedules.{AreInOrder}

-- what an answer to a command with this input says, where a node makes up to so many moves
-- and the sink is known to have held `old` before and to hold `new` now
abbrev pub Says : ℕ → Command → Status → List ℕ → List Logged → List ℕ → List ℕ → Type 0
Says moves command status input run old new = Did moves (Some command) status (Some input) run (Some old) (Some new)

-- with this answer to the command, this text is written
abbrev pub Writes : ℕ → Command → Status → List ℕ → List ℕ → Type 0
Writes moves command status input text = (run : List Logged) (old new : List ℕ)
    → Says moves command status input run old new → new ≡ old ++ text

-- after a write fault a first part of this text is written, and not all of it
abbrev pub WritesPart : ℕ → Command → List ℕ → List ℕ → Type 0
WritesPart moves command input text = (run : List Logged) (old new : List ℕ)
    → Says moves command WriteFault input run old new
    → (n : ℕ) × (n < length text) × (new ≡ old ++ take n text)

-- with this answer to the command no run is told, and nothing was written
abbrev pub SaysNothing : Command → Status → List ℕ → Type 0
SaysNothing command status input = (run : List Logged) (old new : List ℕ)
    → Says MAX_MOVES command status input run old new → (run ≡ []) × (new ≡ old)

-- the command never has this answer
abbrev pub IsNever : ℕ → Command → Status → List ℕ → Type 0
IsNever moves command status input = (run : List Logged) (old new : List ℕ)
    → Says moves command status input run old new → ⊥

-- a client takes one lock
abbrev pub one_lock : List ℕ
one_lock = codes "nodes 1\nset s\nclient a at 0\na lock s read\n"

abbrev pub one_lock_script : ScriptData
one_lock_script = record {
  version = 1;
  nodes = 1;
  sets = record { name = codes "s"; family = 0 } ∷ [];
  clients = record { name = codes "a"; node = 0 } ∷ [];
  commands = (0, Lock 0 Read) ∷ [];
}

-- its one move
abbrev pub the_move : Logged
the_move = logged one_lock_script (start one_lock_script) 0 (Act 0)

abbrev pub one_lock_journal : List ℕ
one_lock_journal = codes "move 1 0 act a\ngrant a s read\nheld a s read 1\nowner s 0 0\nend 1\n"

-- a command that runs this script can only be done, with this journal
pub record OnlyJournal (command : Command) (input journal : List ℕ) : Type 0 where
  pub done : Writes MAX_MOVES command Done input journal
  pub part : WritesPart MAX_MOVES command input journal
  pub never_stuck : IsNever MAX_MOVES command Stuck input
  pub never_cut : (node : ℕ) → IsNever MAX_MOVES command (Cut node) input

pub record OneLock : Type 0 where
  pub first : OnlyJournal SimFirst one_lock one_lock_journal
  pub drawn : (seed : ℕ) → OnlyJournal (Sim seed) one_lock one_lock_journal
  pub threads : OnlyJournal Run one_lock one_lock_journal

-- two clients take a lock that only one may hold
abbrev pub two_writers : List ℕ
two_writers = codes "nodes 1\nset s\nclient a at 0\nclient b at 0\na lock s write\nb lock s write\n"

abbrev pub two_writers_script : ScriptData
two_writers_script = record {
  version = 1;
  nodes = 1;
  sets = record { name = codes "s"; family = 0 } ∷ [];
  clients = record { name = codes "a"; node = 0 } ∷ record { name = codes "b"; node = 0 } ∷ [];
  commands = (0, Lock 0 Write) ∷ (1, Lock 0 Write) ∷ [];
}

abbrev pub two_writers_journal : List ℕ
two_writers_journal = codes "move 1 0 act a\ngrant a s write\nmove 2 0 act b\nwait b s write\nheld a s write 1\nwaiting b s write\nowner s 0 0\nend 2\n"

pub record TwoWriters : Type 0 where
  pub stuck : Writes MAX_MOVES SimFirst Stuck two_writers two_writers_journal
  pub never_done : IsNever MAX_MOVES SimFirst Done two_writers
  pub never_cut : (node : ℕ) → IsNever MAX_MOVES SimFirst (Cut node) two_writers

abbrev pub first_move : List Logged
first_move = first_run two_writers_script 1

abbrev pub both_moves : List Logged
both_moves = first_run two_writers_script 2

abbrev pub cut_journal : List ℕ
cut_journal = codes "move 1 0 act a\ngrant a s write\ncut 0\n"

-- the same, where the node makes one move
pub record CutShort : Type 0 where
  pub cut : Writes 1 SimFirst (Cut 0) two_writers cut_journal
  pub never_elsewhere : (node : ℕ) → 0 < node → IsNever 1 SimFirst (Cut node) two_writers

-- A script whose two moves can be made in either order, and which order each command makes them in.

-- each of two nodes has a client that tries a lock
abbrev pub two_tries : List ℕ
two_tries = codes "nodes 2\nset s\nclient a at 0\nclient b at 1\na try s read\nb try s read\n"

abbrev pub two_tries_script : ScriptData
two_tries_script = record {
  version = 1;
  nodes = 2;
  sets = record { name = codes "s"; family = 0 } ∷ [];
  clients = record { name = codes "a"; node = 0 } ∷ record { name = codes "b"; node = 1 } ∷ [];
  commands = (0, Try 0 Read) ∷ (1, Try 0 Read) ∷ [];
}

-- its two moves: node 0 has the desk and gives the lock, node 1 doesn't
abbrev pub try_of_a : Logged
try_of_a = record { made = record { stamp = record { clock = 1; node = 0 }; step = Act 0 }; events = Tried 0 0 Read true ∷ [] }

abbrev pub try_of_b : Logged
try_of_b = record { made = record { stamp = record { clock = 1; node = 1 }; step = Act 1 }; events = Tried 1 0 Read false ∷ [] }

abbrev pub a_first : List Logged
a_first = try_of_a ∷ try_of_b ∷ []

abbrev pub b_first : List Logged
b_first = try_of_b ∷ try_of_a ∷ []

-- the command never has made this run
abbrev pub IsNeverMade : Command → List Logged → Type 0
IsNeverMade command run = (old new : List ℕ) → Says MAX_MOVES command Done two_tries run old new → ⊥

pub record OrdersSay : Type 0 where
  pub both_are_runs : IsRun two_tries_script a_first × IsRun two_tries_script b_first
  pub not_first : IsNeverMade SimFirst b_first
  -- the numbers of seed 7 draw b's move first, those of seed 8 a's
  pub drawn : AreInOrder (Drawn (seeded 7)) two_tries_script b_first
  pub not_drawn : IsNeverMade (Sim 7) a_first
  pub drawn_by_another : AreInOrder (Drawn (seeded 8)) two_tries_script a_first
  pub not_drawn_by_another : IsNeverMade (Sim 8) b_first
  -- both clocks are 1, so the node decides
  pub rising : AreRising a_first
  pub not_rising : IsNeverMade Run b_first
