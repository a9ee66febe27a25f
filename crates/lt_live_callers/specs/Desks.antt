-- What callers do at their desks.
use Rattle.std.specs.Prelude.{◌≡◌, ◌≤◌, ℕ, Bool, List, [], ◌∷◌, ◌++◌, Option, Some, None, length}
use mathlib.Core.List.{IsPrefix}
use Rattle.lt_modes.specs.declared.command.Command.{Command}
use Rattle.lt_runner.specs.declared.turning.Turned.{Turned}
use Rattle.lt_live.specs.declared.reply.Reply.{Reply}
use Rattle.lt_live.specs.declared.ends.Session.{Session}
use Rattle.lt_live.specs.Words.{submitted, polled, known_replies, command_held, SameSession}
use Rattle.lt_live.specs.Stations.{StationData, StationTurns}
use Rattle.lt_live.specs.Live.{StationGoesOn}
use Rattle.lt_live_callers.specs.declared.desk.Desk.{Desk}
use Rattle.lt_live_callers.specs.declared.served.Called.{Called}
use Rattle.lt_live_callers.specs.Places.{Each}
use Rattle.lt_live_callers.specs.Refused.{CanSubmit, NamesAll}

abbrev pub reply_told : Option Reply → List Reply
reply_told None = []
reply_told (Some reply) = reply ∷ []

-- the next reply was polled, if one is known
pub record HearsAtDesk (result : Option Reply) (old new : Session) : Type 0 where
  pub same : SameSession old new
  pub polled : polled new ≡ polled old ++ reply_told result
  pub submitted : submitted new ≡ submitted old
  pub known : IsPrefix (known_replies old) (reply_told result ++ known_replies new)
  pub none : result ≡ None → known_replies old ≡ []

-- the command, if there is one, was submitted, or comes back since it might not be
pub record SubmitsAtDesk (command result : Option Command) (old new : Session) : Type 0 where
  pub same : SameSession old new
  pub replies : (polled new ≡ polled old) × (known_replies new ≡ known_replies old)
  pub submitted : submitted new ++ command_held result ≡ submitted old ++ command_held command
  pub names : NamesAll old → NamesAll new
  pub back : (held : Command) → result ≡ Some held → command ≡ Some held
  pub barred : (held : Command) → result ≡ Some held → ¬ CanSubmit new held

-- the same session, of which more replies may be known
pub record KnowsMore (s t : Session) : Type 0 where
  pub same : SameSession s t
  pub polled : polled t ≡ polled s
  pub known : IsPrefix (known_replies s) (known_replies t)

-- one step of a caller: its session, what the caller was told, what it answered, and both after it
pub record StepOf (C : Type 0) : Type 0 where
  pub session : Session
  pub reply : Option Reply
  pub command : Option Command
  pub after : C
  pub later : Session

module _ {C : Type 0} where
  -- the second caller is what these steps made of the first
  abbrev pub Went : (C → Option Reply → Option Command → C → Type 0) → C → List (StepOf C) → C → Type 0
  Went goes a [] b = b ≡ a
  Went goes a (s ∷ rest) b = goes a s.reply s.command s.after × Went goes s.after rest b

  abbrev pub replies_in_steps : List (StepOf C) → List Reply
  replies_in_steps [] = []
  replies_in_steps (s ∷ rest) = reply_told s.reply ++ replies_in_steps rest

  abbrev pub commands_in_steps : List (StepOf C) → List Command
  commands_in_steps [] = []
  commands_in_steps (s ∷ rest) = command_held s.command ++ commands_in_steps rest

  -- the caller was told the next reply that its session knew; nothing only where it knew none
  pub record HearsInStep (s : StepOf C) : Type 0 where
    pub same : SameSession s.session s.later
    pub polled : polled s.later ≡ polled s.session ++ reply_told s.reply
    pub known : IsPrefix (known_replies s.session) (reply_told s.reply ++ known_replies s.later)
    pub none : s.reply ≡ None → known_replies s.session ≡ []

  -- from the first session to the second one, in each of these steps the caller was told what its session knew
  abbrev pub Heard : Session → List (StepOf C) → Session → Type 0
  Heard first [] last = KnowsMore first last
  Heard first (s ∷ rest) last = KnowsMore first s.session × HearsInStep s × Heard s.later rest last

  abbrev pub session_of : Desk C → Session
  session_of desk = desk.session

  abbrev pub caller_of : Desk C → C
  caller_of desk = desk.caller

  -- the caller, without its session
  abbrev pub called_of : Desk C → Called C
  called_of desk = record { caller = desk.caller; done = desk.done; refused = desk.refused }

  -- the command that was refused might not be submitted
  abbrev pub IsRightlyRefused : Desk C → Type 0
  IsRightlyRefused desk = (back : Command) → desk.refused ≡ Some back → ¬ CanSubmit desk.session back

  -- the last of the steps answered with this command
  pub record LastAnswers (command : Command) (steps : List (StepOf C)) : Type 0 where
    pub front : List (StepOf C)
    pub last : StepOf C
    pub all : steps ≡ front ++ last ∷ []
    pub answer : last.command ≡ Some command

  -- so many steps; or, where a command was refused, no more than so many, of which the last one answered with it
  abbrev pub AreSteps : ℕ → Option Command → List (StepOf C) → Type 0
  AreSteps n None steps = length steps ≡ n
  AreSteps n (Some command) steps = (length steps ≤ n) × LastAnswers command steps

  -- the caller made so many steps, none if a command was refused before: it was told what was polled in them, which is
  -- each reply that was known, and what it answered was submitted but for what was refused
  pub record DeskGoesOn (goes : C → Option Reply → Option Command → C → Type 0) (n : ℕ) (a b : Desk C) : Type 0 where
    pub same : SameSession a.session b.session
    pub steps : List (StepOf C)
    pub went : Went goes a.caller steps b.caller
    pub told : polled b.session ≡ polled a.session ++ replies_in_steps steps
    pub heard : Heard a.session steps b.session
    pub asked : submitted b.session ++ command_held b.refused
        ≡ (submitted a.session ++ command_held a.refused) ++ commands_in_steps steps
    pub many : a.refused ≡ None → AreSteps n b.refused steps
    pub over : (command : Command) → a.refused ≡ Some command → (steps ≡ []) × (b.refused ≡ Some command)
    pub barred : IsRightlyRefused a → IsRightlyRefused b
    pub names : NamesAll a.session → NamesAll b.session

  abbrev pub DesksGoOn : (C → Option Reply → Option Command → C → Type 0) → ℕ → List (Desk C) → List (Desk C) → Type 0
  DesksGoOn goes n old new = Each (DeskGoesOn goes n) old new

  -- the caller was asked whether it is done, and nothing else happened
  pub record IsAsked (says : C → Bool → Type 0) (a b : Desk C) : Type 0 where
    pub same : b ≡ record a { done = b.done }
    pub said : says b.caller b.done

-- What stations do.

-- one turn of a station
pub record OneTurn (a b : StationData) : Type 0 where
  pub turned : Turned
  pub turns : StationTurns turned a.runner a.seats b.runner b.seats
  pub goes : StationGoesOn a b

-- the second station is what turns made of the first, and these are what each of them left
abbrev pub WentByTurns : StationData → List StationData → StationData → Type 0
WentByTurns a [] b = b ≡ a
WentByTurns a (s ∷ rest) b = OneTurn a s × WentByTurns s rest b

-- so many turns, or more
pub record MakesTurns (n : ℕ) (a b : StationData) : Type 0 where
  pub left : List StationData
  pub passed : WentByTurns a left b
  pub many : n ≤ length left

-- the stations at the same places did
abbrev pub StationsGoOn : ℕ → List StationData → List StationData → Type 0
StationsGoOn n old new = Each (MakesTurns n) old new
