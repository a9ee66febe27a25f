-- What C is told of stations and sessions, in literals: the numbers of clients/c/lockrun.h, and what follows from each
-- code of a call.
use Rattle.std.specs.Prelude.{◌≡◌, ◌≢◌, ◌<◌, ◌≤◌, ◌⊎◌, ◌+◌, ◌++◌, ◌∷◌, [], ℕ, IsTrue, Option, Some, None, length}
use mathlib.Core.List.{IsPrefix}
use Rattle.rtrb.specs.Ring.{known_free, producer_capacity}
use Rattle.lt_modes.specs.declared.command.Command.TheVariants.{Lock, Try, Unlock, Change, DropAll, Withdraw}
use Rattle.lt_modes.specs.declared.mode.Mode.TheVariants as modes
use Rattle.lt_modes.specs.FiveModes.{is_of_version}
use Rattle.lt_modes.specs.Script.{home_at}
use Rattle.lt_node.specs.NodeData.{state_of}
use Rattle.lt_runner.specs.declared.turning.Turned.TheVariants as turns
use Rattle.lt_live.specs.declared.ends.Session.{Session}
use Rattle.lt_live.specs.declared.reply.Reply.{Reply}
use Rattle.lt_live.specs.declared.reply.Reply.TheVariants as replies
use Rattle.lt_live.specs.Live.{StationGoesOn}
use Rattle.lt_live.specs.Stations.{StationData, StationTurns}
use Rattle.lt_live.specs.Words.{submitted, polled, known_replies, SameSession}
use Rattle.lt_live_c.specs.declared.code.TheConstants.{OK, NOTHING, WRONG_HANDLE, NO_MEMORY, BAD_ARGUMENT, BAD_SCRIPT, SPENT, FULL, LOG_FULL, FORGOTTEN, TOO_MANY, BAD_SET, OTHER_VERSION, OTHER_SERVICE, OTHER_NODE, MISSING, AGAIN, TOO_LONG, BAD_SEAL, NO_LETTER, MISFIT}
use Rattle.lt_live_c.specs.declared.content.Content.{Content}
use Rattle.lt_live_c.specs.declared.content.Content.TheVariants as contents
use Rattle.lt_live_c.specs.declared.journal.Journal.{Journal}
use Rattle.lt_live_c.specs.declared.limits.TheConstants.{MAX_BYTES}
use Rattle.lt_live_c.specs.declared.service.Service.{Service}
use Rattle.lt_live_c.specs.Calls.{number_of_reply, count_for_c, mode_numbered, command_numbered, TurnsStation, Submits, Polls, left_at, client_in, home_in}
use Rattle.lt_live_c.specs.Taking.{HandleGoesOn, AtStation, AtSession}
use Rattle.lt_live_c.specs.Forgetting.{ForgetsStation}

-- the codes of all calls, and the greatest text of a script in bytes
pub record CallCodesAre : Type 0 where
  pub ok : OK ≡ 0
  pub nothing : NOTHING ≡ 1
  pub wrong_handle : WRONG_HANDLE ≡ 2
  pub no_memory : NO_MEMORY ≡ 3
  pub bad_argument : BAD_ARGUMENT ≡ 4
  pub bad_script : BAD_SCRIPT ≡ 5
  pub spent : SPENT ≡ 6
  pub full : FULL ≡ 7
  pub log_full : LOG_FULL ≡ 8
  pub forgotten : FORGOTTEN ≡ 9
  pub too_many : TOO_MANY ≡ 10
  pub bad_set : BAD_SET ≡ 11
  pub other_version : OTHER_VERSION ≡ 40
  pub other_service : OTHER_SERVICE ≡ 41
  pub other_node : OTHER_NODE ≡ 42
  pub missing : MISSING ≡ 43
  pub again : AGAIN ≡ 44
  pub too_long : TOO_LONG ≡ 45
  pub bad_seal : BAD_SEAL ≡ 46
  pub no_letter : NO_LETTER ≡ 47
  pub misfit : MISFIT ≡ 48
  pub bytes : MAX_BYTES ≡ 1048576

-- the reply's number, and what stands in the count after it where 9 stood there
abbrev pub IsNumbered : Reply → ℕ → ℕ → Type 0
IsNumbered reply number count = (number_of_reply reply ≡ number) × (count_for_c reply 9 ≡ count)

-- the number of each reply; of dropped locks the count tells how many they were
pub record ReplyNumbersAre : Type 0 where
  pub granted : IsNumbered replies.Granted 16 9
  pub is_true : IsNumbered replies.True 17 9
  pub is_false : IsNumbered replies.False 18 9
  pub unlocked : IsNumbered replies.Unlocked 19 9
  pub not_held : IsNumbered replies.NotHeld 20 9
  pub changed : IsNumbered replies.Changed 21 9
  pub dropped : IsNumbered (replies.Dropped 3) 22 3
  pub busy : IsNumbered replies.Busy 23 9
  pub withdrawn : IsNumbered replies.Withdrawn 24 9
  pub withheld : IsNumbered replies.Withheld 25 9

-- the number of each mode
pub record ModeNumbersAre : Type 0 where
  pub intention_read : mode_numbered 0 ≡ Some modes.IntentionRead
  pub read : mode_numbered 1 ≡ Some modes.Read
  pub upgrade : mode_numbered 2 ≡ Some modes.Upgrade
  pub intention_write : mode_numbered 3 ≡ Some modes.IntentionWrite
  pub read_intention_write : mode_numbered 4 ≡ Some modes.ReadIntentionWrite
  pub write : mode_numbered 5 ≡ Some modes.Write
  pub none : (n : ℕ) → 5 < n → mode_numbered n ≡ None

-- the command of each kind, of set 7, and the numbers of none
pub record CommandNumbersAre : Type 0 where
  pub lock : command_numbered 0 7 5 9 ≡ Some (Lock 7 modes.Write)
  pub tries : command_numbered 1 7 1 9 ≡ Some (Try 7 modes.Read)
  pub unlock : command_numbered 2 7 4 9 ≡ Some (Unlock 7 modes.ReadIntentionWrite)
  pub change : command_numbered 3 7 2 5 ≡ Some (Change 7 modes.Upgrade modes.Write)
  pub drops : command_numbered 4 7 65535 9 ≡ Some (DropAll 65535 7)
  pub withdraws : command_numbered 5 7 65535 9 ≡ Some (Withdraw 65535 7)
  pub no_lock : command_numbered 0 7 6 0 ≡ None
  pub no_try : command_numbered 1 7 6 0 ≡ None
  pub no_unlock : command_numbered 2 7 6 0 ≡ None
  pub no_change_from : command_numbered 3 7 6 5 ≡ None
  pub no_change_to : command_numbered 3 7 2 6 ≡ None
  pub no_drop : command_numbered 4 7 65536 0 ≡ None
  pub no_withdraw : command_numbered 5 7 65536 0 ≡ None
  pub no_kind : (kind set first second : ℕ) → 5 < kind → command_numbered kind set first second ≡ None

-- the handle stands for a station, or for a session, of which this is so
abbrev pub OfStation : Option Content → (StationData → Type 0) → Type 0
OfStation (Some (contents.Station b)) Told = Told b
OfStation other Told = ⊥

abbrev pub OfSession : Option Content → (Session → Type 0) → Type 0
OfSession (Some (contents.Session t)) Told = Told t
OfSession other Told = ⊥

-- this is so of each turn with this code, by the station before and after it
abbrev pub AfterTurn : ℕ → (StationData → StationData → Type 0) → Type 0
AfterTurn code Told =
    (a : StationData) (new : Option Content) → AtStation code (TurnsStation code) (Some (contents.Station a)) new
    → OfStation new (Told a)

-- what each code of a turn says
pub record TurnsTold : Type 0 where
  pub moved : AfterTurn 0 (λ a b. StationTurns turns.Moved a.runner a.seats b.runner b.seats)
  pub quiet : AfterTurn 1 (λ a b. StationTurns turns.Quiet a.runner a.seats b.runner b.seats)
  pub full : AfterTurn 8 (λ a b. StationTurns turns.Full a.runner a.seats b.runner b.seats)
  pub no_memory : AfterTurn 3 (λ a b. StationTurns turns.NoMemory a.runner a.seats b.runner b.seats)
  pub only : (code : ℕ) → AfterTurn code (λ a b. (code ≡ 0) ⊎ ((code ≡ 1) ⊎ ((code ≡ 8) ⊎ (code ≡ 3))))

-- this is so of each call with this code that lets a station forget, by the station before and after it
abbrev pub AfterForget : ℕ → (StationData → StationData → Type 0) → Type 0
AfterForget code Told =
    (a : StationData) (new : Option Content) → AtStation code (ForgetsStation code) (Some (contents.Station a)) new
    → OfStation new (Told a)

-- what is forgotten, and that all else of the runner stays
pub record ForgetsTold : Type 0 where
  pub moves : AfterForget 0 (λ a b. b.runner.log.gone ≡ length a.runner.log.entries)
  pub commands : AfterForget 0 (λ a b. b.runner.node.gone ≡ length a.runner.node.script.commands)
  pub commands_kept : AfterForget 3 (λ a b. b.runner.node.gone ≡ a.runner.node.gone)
  pub same_moves : (code : ℕ) → AfterForget code (λ a b. b.runner.log.entries ≡ a.runner.log.entries)
  pub same_script : (code : ℕ) → AfterForget code (λ a b. b.runner.node.script ≡ a.runner.node.script)
  pub same_node : (code : ℕ) → AfterForget code (λ a b. b.runner.node.me ≡ a.runner.node.me)
  pub same_state : (code : ℕ) → AfterForget code (λ a b. state_of b.runner.node ≡ state_of a.runner.node)
  pub same_mail : (code : ℕ) → AfterForget code (λ a b. b.runner.mail ≡ a.runner.mail)
  pub same_hand : (code : ℕ) → AfterForget code (λ a b. b.runner.hand ≡ a.runner.hand)
  pub same_limit : (code : ℕ) → AfterForget code (λ a b. b.runner.limit ≡ a.runner.limit)
  pub only : (code : ℕ) → AfterForget code (λ a b. (code ≡ 0) ⊎ (code ≡ 3))

-- this is so of each call with this code that submits a command of this kind and of set 7, with this first number, by
-- the session before and after it
abbrev pub AfterSubmit : ℕ → ℕ → ℕ → (Session → Session → Type 0) → Type 0
AfterSubmit code kind first Told =
    (s : Session) (new : Option Content)
    → AtSession code (Submits code (command_numbered kind 7 first 9)) (Some (contents.Session s)) new
    → OfSession new (Told s)

-- what each code of a submitted command says
pub record SubmitsTold : Type 0 where
  pub next : AfterSubmit 0 0 5 (λ s t. submitted t ≡ submitted s ++ Lock 7 modes.Write ∷ [])
  pub one_less : AfterSubmit 0 0 5 (λ s t. t.left + 1 ≡ s.left)
  pub set : AfterSubmit 0 0 5 (λ s t. 7 < length s.script.sets)
  pub mode : AfterSubmit 0 0 4 (λ s t. IsTrue (is_of_version s.script.version modes.ReadIntentionWrite))
  pub client : AfterSubmit 0 4 3 (λ s t. 3 < length s.script.clients)
  pub neighbour : AfterSubmit 0 4 3 (λ s t. home_at s.script.clients 3 ≡ home_at s.script.clients s.client)
  pub withdraw : AfterSubmit 0 5 3 (λ s t. submitted t ≡ submitted s ++ Withdraw 3 7 ∷ [])
  pub version : AfterSubmit 0 5 3 (λ s t. s.script.version ≡ 3)
  pub withdraw_client : AfterSubmit 0 5 3 (λ s t. 3 < length s.script.clients)
  pub withdraw_neighbour : AfterSubmit 0 5 3 (λ s t. home_at s.script.clients 3 ≡ home_at s.script.clients s.client)
  pub no_command : AfterSubmit 0 0 6 (λ s t. ⊥)
  pub named : AfterSubmit 4 1 1 (λ s t.
      7 < length s.script.sets → IsTrue (is_of_version s.script.version modes.Read) → ⊥)
  -- a number that is no mode's, and a set that isn't there, are told so whatever else is wrong
  pub bad_mode : (code : ℕ) → AfterSubmit code 0 6 (λ s t. code ≡ 4)
  pub bad_set : (code : ℕ) → AfterSubmit code 0 5 (λ s t. length s.script.sets ≤ 7 → code ≡ 4)
  pub spent : AfterSubmit 6 0 5 (λ s t. s.left ≡ 0)
  pub used_up : AfterSubmit 7 0 5 (λ s t. producer_capacity s.commands ≤ length (submitted s))
  pub no_place : AfterSubmit 7 0 5 (λ s t. known_free t.commands ≡ 0)
  pub place : AfterSubmit 7 0 5 (λ s t. 0 < known_free s.commands → ⊥)
  pub stays : (code : ℕ) → code ≢ 0 → AfterSubmit code 0 5 (λ s t. (submitted t ≡ submitted s) × (t.left ≡ s.left))
  pub only : (code : ℕ) → AfterSubmit code 0 5 (λ s t. (code ≡ 0) ⊎ ((code ≡ 4) ⊎ ((code ≡ 6) ⊎ (code ≡ 7))))
  pub polled_stays : (code : ℕ) → AfterSubmit code 0 5 (λ s t. polled t ≡ polled s)
  pub known_stays : (code : ℕ) → AfterSubmit code 0 5 (λ s t. known_replies t ≡ known_replies s)

-- this is so of each poll with this code, by the count and the session before and after it
abbrev pub AfterPoll : ℕ → (ℕ → ℕ → Session → Session → Type 0) → Type 0
AfterPoll code Told =
    (s : Session) (was count : ℕ) (new : Option Content)
    → AtSession code (Polls code was count) (Some (contents.Session s)) new
    → OfSession new (Told was count s)

-- what the codes of a poll say
pub record PollsTold : Type 0 where
  pub nothing : AfterPoll 1 (λ was count s t. known_replies s ≡ [])
  pub still_nothing : AfterPoll 1 (λ was count s t. known_replies t ≡ [])
  pub no_reply : AfterPoll 1 (λ was count s t. polled t ≡ polled s)
  pub count_stays : AfterPoll 1 (λ was count s t. count ≡ was)
  pub granted : AfterPoll 16 (λ was count s t. polled t ≡ polled s ++ replies.Granted ∷ [])
  pub granted_known : AfterPoll 16 (λ was count s t. IsPrefix (known_replies s) (replies.Granted ∷ known_replies t))
  pub granted_count : AfterPoll 16 (λ was count s t. count ≡ was)
  pub dropped : AfterPoll 22 (λ was count s t. polled t ≡ polled s ++ replies.Dropped count ∷ [])
  pub withdrawn : AfterPoll 24 (λ was count s t. polled t ≡ polled s ++ replies.Withdrawn ∷ [])
  pub withheld : AfterPoll 25 (λ was count s t. polled t ≡ polled s ++ replies.Withheld ∷ [])
  pub only : (code : ℕ) → AfterPoll code (λ was count s t. (code ≡ 1) ⊎ ((16 ≤ code) × (code ≤ 25)))
  pub submitted_stays : (code : ℕ) → AfterPoll code (λ was count s t. submitted t ≡ submitted s)
  pub left_stays : (code : ℕ) → AfterPoll code (λ was count s t. t.left ≡ s.left)

-- 0 of a service, 1 of a station, 2 of a session, 3 of a journal, 4 of a node in a process of its own
abbrev pub kind_of : Content → ℕ
kind_of (contents.Service s) = 0
kind_of (contents.Station x) = 1
kind_of (contents.Session s) = 2
kind_of (contents.Journal journal) = 3
kind_of (contents.Node n) = 4

-- on what isn't of this kind the call does nothing, and its code says so
abbrev pub IsOfKind : ℕ → (ℕ → Option Content → Option Content → Type 0) → Type 0
IsOfKind kind Calls =
    (content : Content) → kind_of content ≢ kind
    → (code : ℕ) (new : Option Content) → Calls code (Some content) new → (code ≡ 2) × (new ≡ Some content)

-- the same of a call that takes stations and nodes in processes of their own
abbrev pub IsOfStations : (ℕ → Option Content → Option Content → Type 0) → Type 0
IsOfStations Calls =
    (content : Content) → kind_of content ≢ 1 → kind_of content ≢ 4
    → (code : ℕ) (new : Option Content) → Calls code (Some content) new → (code ≡ 2) × (new ≡ Some content)

-- what calls do with handles of each kind
pub record KindsTold : Type 0 where
  pub turn : IsOfStations (λ code old new. AtStation code (TurnsStation code) old new)
  pub forget : IsOfStations (λ code old new. AtStation code (ForgetsStation code) old new)
  pub submit : IsOfKind 2 (λ code old new. AtSession code (Submits code (Some (Lock 7 modes.Write))) old new)
  pub poll : (was count : ℕ) → IsOfKind 2 (λ code old new. AtSession code (Polls code was count) old new)
  pub station : (a : StationData) (new : Option Content) → HandleGoesOn (Some (contents.Station a)) new
      → OfStation new (λ b. StationGoesOn a b)
  pub session : (s : Session) (new : Option Content) → HandleGoesOn (Some (contents.Session s)) new
      → OfSession new (λ t. SameSession s t)
  pub service : (s : Service) (new : Option Content) → HandleGoesOn (Some (contents.Service s)) new
      → new ≡ Some (contents.Service s)
  pub journal : (journal : Journal) (new : Option Content) → HandleGoesOn (Some (contents.Journal journal)) new
      → new ≡ Some (contents.Journal journal)

-- what a session is asked for, and 0 of anything else
pub record AsksTold : Type 0 where
  pub left : (s : Session) → left_at (Some (contents.Session s)) ≡ s.left
  pub client : (s : Session) → client_in (Some (contents.Session s)) ≡ s.client
  pub home : (s : Session) → home_in (Some (contents.Session s)) ≡ home_at s.script.clients s.client
  pub no_left : (content : Content) → kind_of content ≢ 2 → left_at (Some content) ≡ 0
  pub no_client : (content : Content) → kind_of content ≢ 2 → client_in (Some content) ≡ 0
  pub no_home : (content : Content) → kind_of content ≢ 2 → home_in (Some content) ≡ 0
