-- What callers made of a script.
use Rattle.std.specs.Prelude.{◌≡◌, ◌<◌, ◌≤◌, ◌⊎◌, true, false, List, Some, ℕ, [], ◌∷◌, ◌++◌, Option, None, Bool, codes, filter, length, map, slice_get}
use mathlib.Core.List.{IsPrefix}
use Rattle.lt_modes.specs.Script.{ScriptData}
use Rattle.lt_modes.specs.declared.command.Command.{Command}
use Rattle.lt_spec.specs.declared.moves.TheConstants.{MAX_MOVES}
use Rattle.lt_spec.specs.declared.limits.TheConstants.{MAX_COMMANDS}
use Rattle.lt_spec.specs.World.{Logged, World, world_after, is_at_rest, anyone_waits, is_of_node}
use Rattle.lt_spec.specs.declared.ending.Ending.{Ending}
use Rattle.lt_spec.specs.declared.ending.Ending.TheVariants as endings
use Rattle.lt_script.specs.Printing.{print_of}
use Rattle.lt_journal.specs.RunLines.{text_of}
use Rattle.lt_runner.specs.declared.parts.Parts.{Parts}
use Rattle.lt_runner.specs.Kept.{Grew}
use Rattle.lt_threads.specs.Pushes.{HasLimit}
use Rattle.lt_threads.specs.Meeting.{EachIs, SomeCouldMove, IsLeastEnabled, HaveAll}
use Rattle.lt_threads.specs.Threads.{StaysWithin, GoesFar}
use Rattle.lt_live.specs.declared.reply.Reply.{Reply}
use Rattle.lt_live.specs.declared.ends.Session.{Session}
use Rattle.lt_live.specs.Words.{submitted, polled, known_replies, command_held, places}
use Rattle.lt_live.specs.Live.{IsServedRun, AreLive, IsRunOfAll}
use Rattle.lt_live.specs.Stations.{StationData, IsOpen, equal_share, runner_of}
use Rattle.lt_live_callers.specs.declared.ending.LiveEnding.{LiveEnding}
use Rattle.lt_live_callers.specs.declared.ending.LiveEnding.TheVariants.{Done, Stuck, Unfinished}
use Rattle.lt_live_callers.specs.declared.desk.Desk.{Desk}
use Rattle.lt_live_callers.specs.declared.served.Called.{Called}
use Rattle.lt_live_callers.specs.declared.served.Served.{Served}
use Rattle.lt_live_callers.specs.Desks.{StepOf, Went, Heard, AreSteps, replies_in_steps, commands_in_steps, caller_of, called_of, session_of, IsRightlyRefused, StationsGoOn}
use Rattle.lt_live_callers.specs.Over.{MadeRounds}
use Rattle.lt_live_callers.specs.Refused.{MayCommand, NamesAll}
use Rattle.lt_live_callers.specs.Taking.{GoesFurther, HearsAll, AreAllAppended}

-- a node may make no move, or more than it ever may
abbrev pub IsNoLimit : ℕ → Type 0
IsNoLimit limit = (limit ≡ 0) ⊎ (MAX_MOVES < limit)

-- How the run ends.

-- this world is at rest with nobody waiting, or with somebody waiting; or this node, the least such one, can make a
-- further move
abbrev pub StopsSo : LiveEnding → ScriptData → World → Type 0
StopsSo Done script w = (is_at_rest script w ≡ true) × (anyone_waits script w ≡ false)
StopsSo Stuck script w = (is_at_rest script w ≡ true) × (anyone_waits script w ≡ true)
StopsSo (Unfinished node) script w = IsLeastEnabled script w (Some node)

-- so is the world after this run
abbrev pub CallersEndSo : LiveEnding → ScriptData → List Logged → Type 0
CallersEndSo ending script run = StopsSo ending script (world_after script run)

-- the same ending, as runs of callers tell it
abbrev pub as_live : Ending → LiveEnding
as_live endings.Done = Done
as_live endings.Stuck = Stuck
as_live (endings.Cut node) = Unfinished node

-- the text of a script, the line `journal`, and the text of a run of it at rest
abbrev pub with_journal : ScriptData → List Logged → List ℕ
with_journal script run = print_of script ++ codes "journal\n" ++ text_of script run None

-- What stations made of it.

-- they were opened for the script, and have made no move
abbrev pub WereOpened : ScriptData → ℕ → List StationData → Type 0
WereOpened script limit stations =
    (capacity : ℕ) × (sessions : List Session) × IsOpen script limit capacity (equal_share script) stations sessions

-- the moves that each has made are the first ones of its node in the run
abbrev pub HaveMade : List StationData → List Logged → Type 0
HaveMade stations run = (node : ℕ) (station : StationData) → slice_get stations node ≡ Some station
    → IsPrefix station.runner.log.entries (filter (is_of_node node) run)

-- runners went on from those of the stations; the run is all their moves, by the script with all commands that they
-- were given
pub record IsRunOfStations (stations : List StationData) (script : ScriptData) (run : List Logged) : Type 0 where
  pub last : List Parts
  pub on : EachIs GoesFurther (map runner_of stations) last
  pub all : IsRunOfAll last script run

-- stations were opened for the script, each of them made so many turns or more, and the moves that they made in them
-- are in the run, which is made by them
pub record ComesOfTurns (first : ScriptData) (limit turns : ℕ) (script : ScriptData) (run : List Logged)
    : Type 0 where
  pub opened : List StationData
  pub turned : List StationData
  pub fresh : WereOpened first limit opened
  pub passed : StationsGoOn turns opened turned
  pub made : HaveMade turned run
  pub whole : IsRunOfStations turned script run

-- What callers made of it.

module _ {C : Type 0} where
  -- the second caller is what its steps made of the first; in them it was told what the session polled, in order, and
  -- what it answered is what the session submitted, in order, but for the last command, if that was refused
  pub record Calls (goes : C → Option Reply → Option Command → C → Type 0)
      (a : C) (s : Session) (b : Called C) : Type 0 where
    pub steps : List (StepOf C)
    pub went : Went goes a steps b.caller
    pub told : polled s ≡ replies_in_steps steps
    -- its session, as it was opened, knew no reply, and whatever it knew later the caller was told in its next step
    pub first : Session
    pub fresh : (polled first ≡ []) × (known_replies first ≡ [])
    pub heard : Heard first steps s
    pub asked : submitted s ++ command_held b.refused ≡ commands_in_steps steps

  abbrev pub CallsAt : (C → Option Reply → Option Command → C → Type 0) → Option C → Session → Option (Called C)
      → Type 0
  CallsAt goes None s b = ⊥
  CallsAt goes (Some a) s None = ⊥
  CallsAt goes (Some a) s (Some b) = Calls goes a s b

  -- it called in so many steps, or in fewer, of which the last one answered with the command that was refused
  abbrev pub InSteps : (goes : C → Option Reply → Option Command → C → Type 0) → ℕ
      → (a : Option C) (s : Session) (b : Option (Called C)) → CallsAt goes a s b → Type 0
  InSteps goes n None s b calls = ⊥
  InSteps goes n (Some a) s None calls = ⊥
  InSteps goes n (Some a) s (Some b) calls = AreSteps n b.refused calls.steps

  -- a run by the rules of the first script with commands, no more than a text may have, which ended so, and for each
  -- client a session that it serves, by which its caller called
  pub record IsServedBy (goes : C → Option Reply → Option Command → C → Type 0)
      (first : ScriptData) (callers : List C) (served : Served C) : Type 0 where
    pub sessions : List Session
    pub count : length sessions ≡ length first.clients
    pub serves : IsServedRun first sessions served.script served.run.entries
    pub few_commands : length served.script.commands ≤ MAX_COMMANDS
    -- in it are all commands that were submitted
    pub all : AreAllAppended served.script sessions
    pub ends : CallersEndSo served.ending served.script served.run.entries
    pub each : (client : ℕ) (s : Session) → slice_get sessions client ≡ Some s
        → CallsAt goes (slice_get callers client) s (slice_get served.callers.items client)
    -- a command that was refused might not be submitted
    pub refused : (client : ℕ) (s : Session) (called : Called C) → slice_get sessions client ≡ Some s
        → slice_get served.callers.items client ≡ Some called → (command : Command) → called.refused ≡ Some command
        → ¬ MayCommand first client s command

  -- so it is, and each caller called in so many steps
  pub record IsServedIn (goes : C → Option Reply → Option Command → C → Type 0)
      (n : ℕ) (first : ScriptData) (callers : List C) (served : Served C) : Type 0 where
    pub by_callers : IsServedBy goes first callers served
    pub steps : (client : ℕ) (s : Session) → (here : slice_get by_callers.sessions client ≡ Some s)
        → InSteps goes n (slice_get callers client) s (slice_get served.callers.items client)
        (by_callers.each client s here)

  -- all that is said of callers that are served
  pub record CallersAreServed (goes : C → Option Reply → Option Command → C → Type 0)
      (says : C → Bool → Type 0) (rounds n limit : ℕ) (first : ScriptData) (callers : List C)
      (served : Served C) : Type 0 where
    pub called : IsServedIn goes n first callers served
    pub worked : MadeRounds says rounds served.rounds served.callers.items
    pub turned : ComesOfTurns first limit n served.script served.run.entries
    pub within : StaysWithin limit served.script served.run.entries
    pub far : GoesFar limit served.script served.run.entries

  -- Callers at their desks.

  abbrev pub CallsIn : (C → Option Reply → Option Command → C → Type 0) → ℕ → Option C → Session
      → Option (Called C) → Type 0
  CallsIn goes n a s b = (calls : CallsAt goes a s b) × InSteps goes n a s b calls

  abbrev pub NoneRefused : List (Desk C) → Type 0
  NoneRefused [] = Unit {0}
  NoneRefused (d ∷ ds) = (d.refused ≡ None) × NoneRefused ds

  -- a desk for each caller, with the session at its place
  pub record AreDesks (callers : List C) (sessions : List Session) (desks : List (Desk C)) : Type 0 where
    pub seated : map caller_of desks ≡ callers
    pub given : map session_of desks ≡ sessions
    pub free : NoneRefused desks

  -- the stations and the sessions are those of the script, no station has forgotten anything, each caller called by the
  -- session at its place, which has an equal share and whose ring has a place for each command that it may submit, what
  -- was refused might not be submitted, what was submitted names what it may, and no reply waits
  pub record AreServing (goes : C → Option Reply → Option Command → C → Type 0)
      (n : ℕ) (script : ScriptData) (limit : ℕ) (callers : List C)
      (stations : List StationData) (desks : List (Desk C)) : Type 0 where
    pub live : AreLive script stations (map session_of desks)
    pub limits : HasLimit limit (map runner_of stations)
    pub all : HaveAll (map runner_of stations)
    pub each : (client : ℕ) (d : Desk C) → slice_get desks client ≡ Some d
        → CallsIn goes n (slice_get callers client) d.session (Some (called_of d))
    pub shares : (client : ℕ) (d : Desk C) → slice_get desks client ≡ Some d → d.session.share ≡ equal_share script
    pub roomy : (client : ℕ) (d : Desk C) → slice_get desks client ≡ Some d → d.session.share ≤ places d.session
    pub barred : (client : ℕ) (d : Desk C) → slice_get desks client ≡ Some d → IsRightlyRefused d
    pub names : (client : ℕ) (d : Desk C) → slice_get desks client ≡ Some d → NamesAll d.session
    pub hears : (client : ℕ) (d : Desk C) → slice_get desks client ≡ Some d → HearsAll script stations client d.session

  -- the run that serves the sessions of these desks, how it ended, and their callers
  pub record AreEnded (script : ScriptData) (limit : ℕ) (stations : List StationData) (desks : List (Desk C))
      (served : Served C) : Type 0 where
    pub serves : IsServedRun script (map session_of desks) served.script served.run.entries
    pub few_commands : length served.script.commands ≤ MAX_COMMANDS
    pub ends : CallersEndSo served.ending served.script served.run.entries
    pub within : StaysWithin limit served.script served.run.entries
    pub far : GoesFar limit served.script served.run.entries
    pub all : AreAllAppended served.script (map session_of desks)
    pub made : IsRunOfStations stations served.script served.run.entries
    pub callers : map called_of desks ≡ served.callers.items
