-- What callers that were served are told, of any callers, and how their runs end, of small runs.
use Rattle.std.specs.Prelude.{◌≡◌, ◌<◌, ◌≤◌, ◌++◌, ◌∷◌, [], ℕ, List, Option, Some, None, codes, length, take, slice_get}
use mathlib.Core.List.{IsPrefix}
use Rattle.lt_modes.specs.declared.command.Command.{Command}
use Rattle.lt_modes.specs.declared.command.Command.TheVariants.{Lock, Unlock}
use Rattle.lt_modes.specs.declared.mode.Mode.TheVariants.{Write}
use Rattle.lt_modes.specs.Script.{ScriptData}
use Rattle.lt_spec.specs.Holdings.{lines_of}
use Rattle.lt_spec.specs.NodeMove.{commands_of, with_commands}
use Rattle.lt_spec.specs.Script.{IsScript}
use Rattle.lt_spec.specs.World.{Logged, IsRun}
use Rattle.lt_merge.specs.Merging.{AreRising}
use Rattle.lt_live.specs.declared.reply.Reply.{Reply}
use Rattle.lt_live.specs.Seats.{replies_in}
use Rattle.lt_live.specs.Stations.{equal_share}
use Rattle.lt_live.specs.Words.{command_held, known_replies}
use Rattle.lt_live_callers.specs.declared.ending.LiveEnding.TheVariants.{Done, Stuck, Unfinished}
use Rattle.lt_live_callers.specs.declared.error.CallersError.TheVariants.{Count, Limit, NoMemory}
use Rattle.lt_live_callers.specs.declared.served.Called.{Called}
use Rattle.lt_live_callers.specs.declared.served.Served.{Served}
use Rattle.lt_live_callers.specs.Desks.{StepOf, Went, replies_in_steps, commands_in_steps}
use Rattle.lt_live_callers.specs.Refused.{NamesOwn}
use Rattle.lt_live_callers.specs.Served.{CallersEndSo, IsServedBy, with_journal}
use Rattle.lt_live_callers.specs.Texts.{error_text}
use Rattle.lt_law_pinned.specs.LiveCalls.{one_lock, one_lock_script, two_moves}
use Rattle.lt_law_pinned.specs.Told.{two_writers_script, two_nodes_script, both_moves}

pub record CallersTextsAre : Type 0 where
  pub count : error_text Count ≡ codes "there isn't one caller for each client"
  pub limit : error_text Limit ≡ codes "a node may make no move, or more than it ever may"
  pub no_memory : error_text NoMemory ≡ codes "no memory"
  pub journal : with_journal one_lock_script two_moves
      ≡ one_lock
      ++ codes "journal\nmove 1 0 act a\ngrant a s write\nmove 2 0 act a\nunlock a s write\nowner s 0 0\nend 2\n"

-- the two writers, of whom the first has a further command
abbrev pub three_commands : ScriptData
three_commands =
    record two_writers_script { commands = (0, Lock 0 Write) ∷ (1, Lock 0 Write) ∷ (0, Unlock 0 Write) ∷ [] }

-- runs that didn't end so
pub record CallersEndsTold : Type 0 where
  -- a client waits, or nobody does
  pub done_waits : CallersEndSo Done two_writers_script both_moves → ⊥
  pub stuck_idle : CallersEndSo Stuck one_lock_script two_moves → ⊥
  -- a node can make a move
  pub done_early : CallersEndSo Done one_lock_script (take 1 two_moves) → ⊥
  pub stuck_early : CallersEndSo Stuck three_commands both_moves → ⊥
  -- no node can; or a lesser one can
  pub unfinished_at_rest : CallersEndSo (Unfinished 0) one_lock_script two_moves → ⊥
  pub unfinished_second : CallersEndSo (Unfinished 1) two_nodes_script [] → ⊥

module _ {C : Type 0} (goes : C → Option Reply → Option Command → C → Type 0) where
  -- the caller made steps; in them it was told a first part of the client's replies in the run, nothing only where its
  -- session knew no reply, and what it answered but for what was refused are the client's commands in the script. A
  -- command is refused only if it is one too many, or names what it may not
  pub record CallerTold (first script : ScriptData) (run : List Logged) (client : ℕ) (caller : C) (after : Called C)
      : Type 0 where
    pub steps : List (StepOf C)
    pub went : Went goes caller steps after.caller
    pub told : IsPrefix (replies_in_steps steps) (replies_in client (lines_of run))
    pub silent : (k : ℕ) (step : StepOf C) → slice_get steps k ≡ Some step → step.reply ≡ None
        → known_replies step.session ≡ []
    pub given : List Command
    pub asked : given ++ command_held after.refused ≡ commands_in_steps steps
    pub all : commands_of script client ≡ given
    pub refused : (command : Command) → after.refused ≡ Some command → length given < equal_share first
        → NamesOwn first client command → ⊥

  -- a fact of all that callers are given back who were served so
  abbrev pub OfServed : (ScriptData → List C → Served C → Type 0) → Type 0
  OfServed fact =
      (first : ScriptData) (callers : List C) (served : Served C) → IsServedBy goes first callers served
      → fact first callers served

  pub record CallersTold : Type 0 where
    pub is_script : OfServed (λ first callers served. IsScript served.script)
    pub few_commands : OfServed (λ first callers served. length served.script.commands ≤ 4096)
    pub same : OfServed (λ first callers served. served.script ≡ with_commands first served.script.commands)
    pub is_run : OfServed (λ first callers served. IsRun served.script served.run.entries)
    pub rising : OfServed (λ first callers served. AreRising served.run.entries)
    pub ends : OfServed (λ first callers served. CallersEndSo served.ending served.script served.run.entries)
    -- each caller comes back, at the place of its client
    pub each : OfServed (λ first callers served.
        (client : ℕ) (caller : C) → client < length first.clients → slice_get callers client ≡ Some caller
        → (after : Called C) × (slice_get served.callers.items client ≡ Some after)
        × CallerTold first served.script served.run.entries client caller after)
