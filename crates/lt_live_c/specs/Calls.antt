-- The numbers by which C tells commands, and is told replies.
use Rattle.std.specs.Prelude.{ℕ, List, Option, Some, None, ◌==◌, nat_lt, if◌then◌else◌, ◌≡◌, ◌≢◌, ◌++◌, ◌∷◌, [], ◌+◌, ◌<◌, ◌≤◌, ◌⊎◌, IsSomeAnd, length, ⊤}
use mathlib.Core.List.{IsPrefix}
use Rattle.rtrb.specs.Ring.{known_free}
use Rattle.lt_modes.specs.declared.command.Command.{Command}
use Rattle.lt_modes.specs.declared.command.Command.TheVariants as commands
use Rattle.lt_modes.specs.declared.mode.Mode.{Mode}
use Rattle.lt_modes.specs.declared.mode.Mode.TheVariants as modes
use Rattle.lt_spec.specs.NodeMove.{home}
use Rattle.lt_spec.specs.Script.{HasTargets, IsOfVersion, set_number}
use Rattle.lt_runner.specs.declared.turning.Turned.{Turned}
use Rattle.lt_runner.specs.declared.turning.Turned.TheVariants as turns
use Rattle.lt_live.specs.declared.reply.Reply.{Reply}
use Rattle.lt_live.specs.declared.reply.Reply.TheVariants as replies
use Rattle.lt_live.specs.declared.ends.Session.{Session}
use Rattle.lt_live.specs.Words.{submitted, polled, known_replies, places}
use Rattle.lt_live.specs.Stations.{StationData, StationTurns}
use Rattle.lt_live_c.specs.declared.code.TheConstants.{OK, NOTHING, WRONG_HANDLE, LOG_FULL, NO_MEMORY, BAD_ARGUMENT, SPENT, FULL}
use Rattle.lt_live_c.specs.declared.content.Content.{Content}
use Rattle.lt_live_c.specs.declared.content.Content.TheVariants as contents

-- the number by which C is told a reply
abbrev pub number_of_reply : Reply → ℕ
number_of_reply replies.Granted = 16
number_of_reply replies.True = 17
number_of_reply replies.False = 18
number_of_reply replies.Unlocked = 19
number_of_reply replies.NotHeld = 20
number_of_reply replies.Changed = 21
number_of_reply (replies.Dropped count) = 22
number_of_reply replies.Busy = 23
number_of_reply replies.Withdrawn = 24
number_of_reply replies.Withheld = 25

-- what stands in C's count after the reply: how many locks were dropped, or what stood there
abbrev pub count_for_c : Reply → ℕ → ℕ
count_for_c (replies.Dropped dropped) count = dropped
count_for_c other count = count

-- the number by which C is told how a turn ended
abbrev pub number_of_turn : Turned → ℕ
number_of_turn turns.Moved = OK
number_of_turn turns.Quiet = NOTHING
number_of_turn turns.Full = LOG_FULL
number_of_turn turns.NoMemory = NO_MEMORY

-- the mode of this number
abbrev pub mode_numbered : ℕ → Option Mode
mode_numbered n =
    if n == 0 then Some modes.IntentionRead
    else if n == 1 then Some modes.Read
    else if n == 2 then Some modes.Upgrade
    else if n == 3 then Some modes.IntentionWrite
    else if n == 4 then Some modes.ReadIntentionWrite
    else if n == 5 then Some modes.Write
    else None

abbrev pub command_with_mode : (Mode → Command) → Option Mode → Option Command
command_with_mode f None = None
command_with_mode f (Some mode) = Some (f mode)

abbrev pub with_modes : (Mode → Mode → Command) → Option Mode → Option Mode → Option Command
with_modes f None other = None
with_modes f (Some mode) None = None
with_modes f (Some mode) (Some other) = Some (f mode other)

-- a withdraw names a client below 2^16, as a drop does
abbrev pub withdraw_of : ℕ → ℕ → Option Command
withdraw_of set client = if nat_lt client 65536 then Some (commands.Withdraw client set) else None

-- a drop names a client below 2^16
abbrev pub drop_of : ℕ → ℕ → Option Command
drop_of set client = if nat_lt client 65536 then Some (commands.DropAll client set) else None

-- the command that C means by these numbers
abbrev pub command_numbered : ℕ → ℕ → ℕ → ℕ → Option Command
command_numbered kind set first second =
    if kind == 0 then command_with_mode (λ mode. commands.Lock set mode) (mode_numbered first)
    else if kind == 1 then command_with_mode (λ mode. commands.Try set mode) (mode_numbered first)
    else if kind == 2 then command_with_mode (λ mode. commands.Unlock set mode) (mode_numbered first)
    else if kind == 3 then with_modes (λ gives_up mode. commands.Change set gives_up mode) (mode_numbered first)
    (mode_numbered second)
    else if kind == 4 then drop_of set first
    else if kind == 5 then withdraw_of set first
    else None

-- What calls on stations and sessions do.

-- a turn of the station, which ended as the code says
abbrev pub TurnsStation : ℕ → StationData → StationData → Type 0
TurnsStation code a b = (turned : Turned) × (code ≡ number_of_turn turned)
    × StationTurns turned a.runner a.seats b.runner b.seats

-- all that the command names is of the session's script
abbrev pub MaySubmit : Session → Command → Type 0
MaySubmit s command = HasTargets s.script.sets s.script.clients s.client command × IsOfVersion s.script.version command

-- the command is the next one of the session's client
pub record IsSubmitted (command : Command) (s t : Session) : Type 0 where
  pub may : MaySubmit s command
  pub next : submitted t ≡ submitted s ++ command ∷ []
  pub left : t.left + 1 ≡ s.left

-- the numbers are those of no command, or it names what isn't of the session's script
abbrev pub MayNot : Option Command → Session → Type 0
MayNot None s = ⊤
MayNot (Some command) s = MaySubmit s command → ⊥

-- how many places of the ring the session knows to be free
abbrev pub free_places : Session → ℕ
free_places s = known_free s.commands

-- the command was submitted, or none was, and the code says why
pub record Submits (code : ℕ) (command : Option Command) (s t : Session) : Type 0 where
  pub replies : (polled t ≡ polled s) × (known_replies t ≡ known_replies s)
  pub ok : code ≡ OK → IsSomeAnd command (λ c. IsSubmitted c s t)
  pub none : code ≢ OK → (submitted t ≡ submitted s) × (t.left ≡ s.left)
  pub bad_argument : code ≡ BAD_ARGUMENT → MayNot command s
  pub barred : MayNot command s → code ≡ BAD_ARGUMENT
  pub spent : code ≡ SPENT → s.left ≡ 0
  pub full : code ≡ FULL → (places s ≤ length (submitted s)) × (free_places t ≡ 0)
  pub place : 0 < free_places s → code ≢ FULL
  pub only : (code ≡ OK) ⊎ ((code ≡ BAD_ARGUMENT) ⊎ ((code ≡ SPENT) ⊎ (code ≡ FULL)))

-- no reply was known here, and none is
pub record HasNoReply (code was count : ℕ) (s t : Session) : Type 0 where
  pub code_is : code ≡ NOTHING
  pub known : (known_replies s ≡ []) × (known_replies t ≡ [])
  pub polled : polled t ≡ polled s
  pub stays : count ≡ was

-- the next reply, which is the first one that is known here, if one is
pub record TellsReply (reply : Reply) (code was count : ℕ) (s t : Session) : Type 0 where
  pub code_is : code ≡ number_of_reply reply
  pub known : IsPrefix (known_replies s) (reply ∷ known_replies t)
  pub polled : polled t ≡ polled s ++ reply ∷ []
  pub tells : count ≡ count_for_c reply was

abbrev pub PollEnds : ℕ → ℕ → ℕ → Session → Session → Type 0
PollEnds code was count s t = HasNoReply code was count s t ⊎ ((reply : Reply) × TellsReply reply code was count s t)

pub record Polls (code was count : ℕ) (s t : Session) : Type 0 where
  pub ends : PollEnds code was count s t
  pub commands : (submitted t ≡ submitted s) × (t.left ≡ s.left)

-- C is told the number, or that there is none
abbrev pub TellsNumber : Option ℕ → ℕ → ℕ → ℕ → Type 0
TellsNumber None code was number = (code ≡ NOTHING) × (number ≡ was)
TellsNumber (Some found) code was number = (code ≡ OK) × (number ≡ found)

-- the number of the session's set with this name
abbrev pub TellsSet : Content → List ℕ → ℕ → ℕ → ℕ → Type 0
TellsSet (contents.Session s) name code was set = TellsNumber (set_number s.script name) code was set
TellsSet other name code was set = (code ≡ WRONG_HANDLE) × (set ≡ was)

abbrev pub HandleTellsSet : Option Content → List ℕ → ℕ → ℕ → ℕ → Type 0
HandleTellsSet None name code was set = (code ≡ WRONG_HANDLE) × (set ≡ was)
HandleTellsSet (Some content) name code was set = TellsSet content name code was set

-- how many commands may still be submitted; 0 where it is no session
abbrev pub left_in : Content → ℕ
left_in (contents.Session s) = s.left
left_in other = 0

abbrev pub left_at : Option Content → ℕ
left_at None = 0
left_at (Some content) = left_in content

-- the number of the session's client, and its node; 0 where it is no session
abbrev pub client_of : Content → ℕ
client_of (contents.Session s) = s.client
client_of other = 0

abbrev pub client_in : Option Content → ℕ
client_in None = 0
client_in (Some content) = client_of content

abbrev pub home_of_content : Content → ℕ
home_of_content (contents.Session s) = home s.script s.client
home_of_content other = 0

abbrev pub home_in : Option Content → ℕ
home_in None = 0
home_in (Some content) = home_of_content content
