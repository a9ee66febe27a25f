-- How the calls end, of any ordered script, and of the greatest script.
use Rattle.std.specs.Prelude.{◌≡◌, ◌≢◌, ◌⊎◌, ℕ, List, Option, Some, None, Ok, length}
use Rattle.lt_modes.specs.Script.{ScriptData}
use Rattle.lt_spec.specs.Ordered.{IsOrdered}
use Rattle.lt_io.specs.Streams.{SourceState}
use Rattle.lt_script.specs.Reading.{read_of}
use Rattle.lt_words.specs.declared.command.Command.{Command}
use Rattle.lt_words.specs.declared.command.Command.TheVariants.{Run, SimFirst, Sim, Soak}
use Rattle.lt_serve.specs.declared.status.Status.{Status}
use Rattle.lt_serve.specs.declared.status.Status.TheVariants.{Done, Stuck, Cut, NoMemory}
use Rattle.lt_serve.specs.Causes.{HasStatusCause}
use Rattle.lt_serve.specs.Serves.{GoesWell, Ends}
use Rattle.lt_serve.specs.TopCall.{greatest_script}
use Rattle.lt_live_serve.specs.declared.status.Status.TheVariants as live
use Rattle.lt_live_serve.specs.Serves.{IsFirstOver, NoneIsOver}
use Rattle.lt_law_pinned.specs.LiveCalls.{LiveCall, ReadsBytes, IsUntroubled}
use Rattle.lt_law_pinned.specs.OtherAnswers.{fresh_source}

-- the bytes denote an ordered script
pub record DenoteOrdered (bytes : List ℕ) (script : ScriptData) : Type 0 where
  pub read : read_of bytes ≡ Ok script
  pub ordered : IsOrdered script

-- the command isn't answered so that a client waits
abbrev pub NeverStuckInOrder : Command → Type 0
NeverStuckInOrder command =
    (bytes : List ℕ) (script : ScriptData) → DenoteOrdered bytes script
    → HasStatusCause (Some command) (Some bytes) Stuck → ⊥

-- where nothing goes wrong it is done
abbrev pub DoneInOrder : Command → Type 0
DoneInOrder command =
    (bytes : List ℕ) (script : ScriptData) (answer : Status)
    (before after : SourceState) (writes_before writes_after : ℕ)
    → before.left ≡ Some bytes → DenoteOrdered bytes script
    → GoesWell (Some command) answer before after writes_before writes_after
    → Ends (Some command) answer before after writes_before writes_after → answer ≡ Done

-- `soak` answers so, where no write failed
abbrev pub SoakEnds : ℕ → Status → Type 0
SoakEnds seed answer = Ends (Some (Soak seed)) answer (fresh_source None) (fresh_source None) 0 0

-- of the commands that make a run
pub record OrderEnds : Type 0 where
  pub first_never : NeverStuckInOrder SimFirst
  pub drawn_never : (seed : ℕ) → NeverStuckInOrder (Sim seed)
  pub threads_never : NeverStuckInOrder Run
  pub first_done : DoneInOrder SimFirst
  pub drawn_done : (seed : ℕ) → DoneInOrder (Sim seed)
  pub threads_done : DoneInOrder Run
  pub soak_never : (seed : ℕ) (left : Option (List ℕ)) → IsOrdered (greatest_script seed)
      → HasStatusCause (Some (Soak seed)) left Stuck → ⊥
  pub soak_rests : (seed : ℕ) (answer : Status) → SoakEnds seed answer → answer ≢ NoMemory
      → (answer ≡ Done) ⊎ (answer ≡ Stuck)
  pub soak_done : (seed : ℕ) (answer : Status) → IsOrdered (greatest_script seed) → SoakEnds seed answer
      → answer ≢ NoMemory → answer ≡ Done
  pub never_cut : (asked : Option Command) (answer : Status) (before after : SourceState)
      (writes_before writes_after node : ℕ)
      → Ends asked answer before after writes_before writes_after → answer ≢ Cut node

-- of live sessions
pub record LiveOrderEnds : Type 0 where
  pub never : (c : LiveCall) (bytes : List ℕ) (script : ScriptData) → ReadsBytes bytes c → DenoteOrdered bytes script
      → c.answer.status ≢ live.Stuck
  -- where no client has too many commands
  pub done : (c : LiveCall) (bytes : List ℕ) (script : ScriptData) → ReadsBytes bytes c → IsUntroubled c
      → DenoteOrdered bytes script → NoneIsOver script (length script.clients) → c.answer.status ≡ live.Done
  -- the client that is named as one that has too many is the least
  pub share : (c : LiveCall) (bytes : List ℕ) (script : ScriptData) (client : ℕ) → ReadsBytes bytes c
      → read_of bytes ≡ Ok script → c.answer.status ≡ live.Share client → IsFirstOver script (Some client)
