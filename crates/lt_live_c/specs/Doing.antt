-- A command that is submitted and served in one call of C.
use Rattle.std.specs.Prelude.{◌≡◌, ◌≢◌, ◌<◌, ◌⊎◌, ℕ, List, Option, Some, None, IsSomeAnd}
use Rattle.lt_mail.specs.Telling.{TellsGiven}
use Rattle.lt_modes.specs.declared.command.Command.{Command}
use Rattle.lt_live.specs.declared.ends.Session.{Session}
use Rattle.lt_live.specs.declared.obeying.Obeyed.{Obeyed}
use Rattle.lt_live.specs.declared.obeying.Obeyed.TheVariants.{Refused, Told, Waits, Full, NoMemory}
use Rattle.lt_live.specs.Obeying.{Obeys}
use Rattle.lt_live.specs.Stations.{StationData}
use Rattle.lt_live.specs.Told.{TellsClients}
use Rattle.lt_live_c.specs.declared.code.TheConstants.{NOTHING, WRONG_HANDLE, NO_MEMORY, BAD_ARGUMENT, SPENT, FULL, LOG_FULL}
use Rattle.lt_live_c.specs.declared.content.Content.{Content}
use Rattle.lt_live_c.specs.declared.content.Content.TheVariants as contents
use Rattle.lt_live_c.specs.Calls.{number_of_reply, count_for_c, MaySubmit, MayNot, free_places}
use Rattle.lt_live_c.specs.Nodes.{KeepsLetters}

-- the number by which C is told how a command ended
abbrev pub number_of_obeyed : Obeyed → ℕ
number_of_obeyed Refused = FULL
number_of_obeyed (Told reply) = number_of_reply reply
number_of_obeyed Waits = NOTHING
number_of_obeyed Full = LOG_FULL
number_of_obeyed NoMemory = NO_MEMORY

-- what stands in C's count then
abbrev pub count_of_obeyed : Obeyed → ℕ → ℕ
count_of_obeyed (Told reply) was = count_for_c reply was
count_of_obeyed other was = was

-- why a command was not submitted
pub record MayNotDo (code : ℕ) (command : Option Command) (s : Session) : Type 0 where
  pub bad_argument : code ≡ BAD_ARGUMENT → MayNot command s
  pub barred : MayNot command s → code ≡ BAD_ARGUMENT
  pub spent : code ≡ SPENT → s.left ≡ 0
  pub only : (code ≡ BAD_ARGUMENT) ⊎ (code ≡ SPENT)

-- the station was given the command, and it ended so
pub record WasGiven (code : ℕ) (command : Command) (was count : ℕ) (a b : StationData) (s t : Session) : Type 0 where
  pub obeyed : Obeyed
  pub code_is : code ≡ number_of_obeyed obeyed
  pub tells : count ≡ count_of_obeyed obeyed was
  pub may : MaySubmit s command
  pub obeys : Obeys obeyed command s t a b
  pub place : 0 < free_places s → obeyed ≢ Refused

-- it was not given it, and nothing happened
pub record WasNotGiven (code : ℕ) (command : Option Command) (was count : ℕ) (a b : StationData) (s t : Session)
    : Type 0 where
  pub why : MayNotDo code command s
  pub stays : (b ≡ a) × ((t ≡ s) × (count ≡ was))

abbrev pub DoEnds : ℕ → Option Command → ℕ → ℕ → StationData → StationData → Session → Session → Type 0
DoEnds code command was count a b s t =
    IsSomeAnd command (λ given. WasGiven code given was count a b s t) ⊎ WasNotGiven code command was count a b s t

-- how it ended; to which nodes the turns sent letters, and which clients they told replies
pub record DoTells (code : ℕ) (command : Option Command) (was count sent : ℕ) (told : List ℕ) (a b : StationData)
    (s t : Session) : Type 0 where
  pub ends : DoEnds code command was count a b s t
  pub sent_to : TellsGiven sent a.runner.mail b.runner.mail
  pub told_to : TellsClients (record { words = told }) a.seats b.seats

-- what a call on a station, or on that of a node in a process of its own, and on a session does: with anything else it
-- does nothing, and the code says so
abbrev pub OnBoth : ℕ → (StationData → StationData → Session → Session → Type 0) → Content → Content → Content
    → Content → Type 0
OnBoth code R (contents.Station x) (contents.Station y) (contents.Session s) (contents.Session t) = R x y s t
OnBoth code R (contents.Node n) (contents.Node m) (contents.Session s) (contents.Session t) =
    R n.remote.station m.remote.station s t × KeepsLetters n m
OnBoth code R a b c d = (code ≡ WRONG_HANDLE) × ((b ≡ a) × (d ≡ c))

-- the same of what handles stand for
abbrev pub AtBoth : ℕ → (StationData → StationData → Session → Session → Type 0) → Option Content → Option Content
    → Option Content → Option Content → Type 0
AtBoth code R (Some a) (Some b) (Some c) (Some d) = OnBoth code R a b c d
AtBoth code R a b c d = (code ≡ WRONG_HANDLE) × ((b ≡ a) × (d ≡ c))
