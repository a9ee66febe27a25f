-- What C is told of services and journals, in literals: what was taken, given, opened, finished and served, or why
-- nothing was.
use Rattle.std.specs.Prelude.{◌≡◌, ◌≢◌, ◌<◌, ◌≤◌, ◌⊎◌, ◌+◌, ◌∷◌, [], ℕ, List, false, Ok, Option, Some, None, codes, filter, length, map, slice_get}
use Rattle.lt_modes.specs.declared.command.Command.TheVariants.{Lock}
use Rattle.lt_modes.specs.declared.event.Event.TheVariants.{Grant, Wait}
use Rattle.lt_modes.specs.declared.mode.Mode.TheVariants.{Write}
use Rattle.lt_modes.specs.declared.moves.Step.TheVariants.{Act}
use Rattle.lt_modes.specs.declared.event.Event.{Event}
use Rattle.lt_modes.specs.Script.{ScriptData}
use Rattle.lt_spec.specs.NodeMove.{commands_of, home}
use Rattle.lt_spec.specs.World.{Logged, is_of_node}
use Rattle.lt_script.specs.Printing.{print_of}
use Rattle.lt_script.specs.Reading.{read_of}
use Rattle.lt_journal.specs.RunLines.{text_of}
use Rattle.lt_live.specs.declared.ends.Session.{Session}
use Rattle.lt_live.specs.declared.ends.Seat.{Seat}
use Rattle.lt_live.specs.Live.{AreLive, IsServedRun, IsServedNow, LiveScript, EachStation, EachSession, SaysSame, IsOtherEnd}
use Rattle.lt_live.specs.Served.{MakesNoMove}
use Rattle.lt_threads.specs.Meeting.{HaveAll, AreTooMany}
use Rattle.lt_live.specs.Stations.{StationData, IsOpen, runner_of}
use Rattle.lt_live.specs.Words.{submitted, polled, taken}
use Rattle.lt_live_c.specs.declared.content.Content.{Content}
use Rattle.lt_live_c.specs.declared.content.Content.TheVariants as contents
use Rattle.lt_live_c.specs.declared.journal.Journal.{Journal}
use Rattle.lt_live_c.specs.declared.service.Service.{Service}
use Rattle.lt_live_c.specs.Taking.{IsWholeHandle, IsNoService, HandleTakesStation, HandleTakesSession, HandleHasNoStation, HandleHasNoSession, HandleGives, HandleKeeps, HandleGiveRefused}
use Rattle.lt_live_c.specs.Opening.{HandleOpened, OpenRefused, fits_for_c}
use Rattle.lt_live_c.specs.Journals.{HandleFinishes, HandleNotFinished, TellsOf, HandleTellsEnd, CopiesFrom, text_of_content, script_at}
use Rattle.lt_live_c.specs.Serving.{HandleTellsServed, HandleNotTold, IsWholeHandleIfAll}
use Rattle.lt_live_c.specs.Told.{kind_of}

-- the handle stands for a service of which this is so
abbrev pub OfService : Option Content → (Service → Type 0) → Type 0
OfService (Some (contents.Service s)) Told = Told s
OfService other Told = ⊥

-- it stands for a service that has these stations and sessions
abbrev pub HasThem : List StationData → List Session → Option Content → Type 0
HasThem stations sessions handle =
    OfService handle (λ s. (s.stations.items ≡ stations) × (s.sessions.items ≡ sessions))

-- this is so of what was taken and what is left where a station, or a session, was taken from such a service
abbrev pub AfterTakingStation : List StationData → List Session → (Option Content → Option Content → Type 0) → Type 0
AfterTakingStation stations sessions Told =
    (old new taken : Option Content) → HasThem stations sessions old → HandleTakesStation taken old new → Told taken new

abbrev pub AfterTakingSession : List StationData → List Session → (Option Content → Option Content → Type 0) → Type 0
AfterTakingSession stations sessions Told =
    (old new taken : Option Content) → HasThem stations sessions old → HandleTakesSession taken old new → Told taken new

-- from a service of two the first is taken; and why none was taken
pub record TakesTold : Type 0 where
  pub station : (x y : StationData) (sessions : List Session)
      → AfterTakingStation (x ∷ y ∷ []) sessions (λ taken new. taken ≡ Some (contents.Station x))
  pub stations_left : (x y : StationData) (sessions : List Session)
      → AfterTakingStation (x ∷ y ∷ []) sessions (λ taken new. HasThem (y ∷ []) sessions new)
  pub session : (s t : Session) (stations : List StationData)
      → AfterTakingSession stations (s ∷ t ∷ []) (λ taken new. taken ≡ Some (contents.Session s))
  pub sessions_left : (s t : Session) (stations : List StationData)
      → AfterTakingSession stations (s ∷ t ∷ []) (λ taken new. HasThem stations (t ∷ []) new)
  pub no_station_of_others : (content : Content) (taken new : Option Content) → kind_of content ≢ 0
      → HandleTakesStation taken (Some content) new → ⊥
  pub no_session_of_others : (content : Content) (taken new : Option Content) → kind_of content ≢ 0
      → kind_of content ≢ 4 → HandleTakesSession taken (Some content) new → ⊥
  pub a_station_left : (x : StationData) (rest : List StationData) (sessions : List Session) (old : Option Content)
      → HasThem (x ∷ rest) sessions old → HandleHasNoStation 1 old → ⊥
  pub a_session_left : (s : Session) (rest : List Session) (stations : List StationData) (old : Option Content)
      → HasThem stations (s ∷ rest) old → HandleHasNoSession 1 old → ⊥
  pub nothing_of_others : (content : Content) → kind_of content ≢ 0 → HandleHasNoStation 1 (Some content) → ⊥
  pub no_sessions_of_others : (content : Content) → kind_of content ≢ 0 → kind_of content ≢ 4
      → HandleHasNoSession 1 (Some content) → ⊥
  pub wrong_for_station : (s : Service) → HandleHasNoStation 2 (Some (contents.Service s)) → ⊥
  pub wrong_for_session : (s : Service) → HandleHasNoSession 2 (Some (contents.Service s)) → ⊥
  -- memory is wanted only where there is one
  pub memory_for_station : (s : Service) → s.stations.items ≡ [] → HandleHasNoStation 3 (Some (contents.Service s)) → ⊥
  pub memory_for_session : (s : Service) → s.sessions.items ≡ [] → HandleHasNoSession 3 (Some (contents.Service s)) → ⊥
  pub no_memory_of_others : (content : Content) → kind_of content ≢ 0 → HandleHasNoStation 3 (Some content) → ⊥
  pub no_memory_for_session : (content : Content) → kind_of content ≢ 0 → kind_of content ≢ 4
      → HandleHasNoSession 3 (Some content) → ⊥
  pub station_codes : (code : ℕ) (content : Content) → HandleHasNoStation code (Some content)
      → (code ≡ 1) ⊎ ((code ≡ 2) ⊎ (code ≡ 3))
  pub session_codes : (code : ℕ) (content : Content) → HandleHasNoSession code (Some content)
      → (code ≡ 1) ⊎ ((code ≡ 2) ⊎ (code ≡ 3))

-- this is so of a service with these stations and sessions to which the content was given
abbrev pub AfterGiving : Content → List StationData → List Session → (Option Content → Type 0) → Type 0
AfterGiving given stations sessions Told =
    (old new : Option Content) → HasThem stations sessions old → HandleGives (Some given) old new → Told new

-- what is given stands last; and why it was not given
pub record GivesTold : Type 0 where
  pub station : (x y : StationData) (sessions : List Session)
      → AfterGiving (contents.Station y) (x ∷ []) sessions (λ new. HasThem (x ∷ y ∷ []) sessions new)
  pub session : (s t : Session) (stations : List StationData)
      → AfterGiving (contents.Session t) stations (s ∷ []) (λ new. HasThem stations (s ∷ t ∷ []) new)
  pub never_service : (given s : Service) (new : Option Content)
      → HandleGives (Some (contents.Service given)) (Some (contents.Service s)) new → ⊥
  pub never_journal : (given : Journal) (s : Service) (new : Option Content)
      → HandleGives (Some (contents.Journal given)) (Some (contents.Service s)) new → ⊥
  pub never_to_others : (given content : Content) (new : Option Content) → kind_of content ≢ 0
      → HandleGives (Some given) (Some content) new → ⊥
  pub keeps : (stations : List StationData) (sessions : List Session) (old new : Option Content)
      → HasThem stations sessions old → HandleKeeps old new → HasThem stations sessions new
  pub keeps_others : (content : Content) (new : Option Content) → kind_of content ≢ 0
      → HandleKeeps (Some content) new → new ≡ Some content
  pub wrong_station : (x : StationData) (s : Service)
      → HandleGiveRefused 2 (Some (contents.Station x)) (Some (contents.Service s)) → ⊥
  pub wrong_session : (t : Session) (s : Service)
      → HandleGiveRefused 2 (Some (contents.Session t)) (Some (contents.Service s)) → ⊥
  pub memory_to_others : (given content : Content) → kind_of content ≢ 0
      → HandleGiveRefused 3 (Some given) (Some content) → ⊥
  pub memory_of_others : (given content : Content) → kind_of given ≢ 1 → kind_of given ≢ 2
      → HandleGiveRefused 3 (Some given) (Some content) → ⊥
  pub give_codes : (code : ℕ) (given to : Content) → HandleGiveRefused code (Some given) (Some to)
      → (code ≡ 2) ⊎ (code ≡ 3)

-- a script of one client, and what is opened for it
abbrev pub client_text : List ℕ
client_text = codes "nodes 1\nset s\nclient a at 0\na lock s write\n"

abbrev pub client_script : ScriptData
client_script = record {
  version = 1;
  nodes = 1;
  sets = record { name = codes "s"; family = 0 } ∷ [];
  clients = record { name = codes "a"; node = 0 } ∷ [];
  commands = [];
}

-- what was opened; and why nothing was
pub record OpensTold : Type 0 where
  pub opened : (new : Option Content) → HandleOpened client_text 9 2 new
      → OfService new (λ s. IsOpen client_script 9 2 576460752303423488 s.stations.items s.sessions.items)
  pub never_opened : (new : Option Content) → HandleOpened [] 9 2 new → ⊥
  pub in_range : (text : List ℕ) (limit places : ℕ)
      → length text ≤ 1048576 → 0 < limit → limit ≤ 36028797018963968 → 0 < places → places ≤ 4096
      → OpenRefused 4 text limit places → ⊥
  pub out_of_range : (code : ℕ) (text : List ℕ) (limit places : ℕ)
      → fits_for_c text limit places ≡ false → OpenRefused code text limit places → code ≡ 4
  pub no_fault : (text : List ℕ) (limit places : ℕ) (script : ScriptData)
      → read_of text ≡ Ok script → OpenRefused 5 text limit places → ⊥
  pub open_codes : (code : ℕ) (text : List ℕ) (limit places : ℕ)
      → OpenRefused code text limit places → (code ≡ 4) ⊎ ((code ≡ 5) ⊎ (code ≡ 3))
  -- all stations and sessions that were opened for one script, in order
  pub whole : (first : ScriptData) (s : Service)
      → AreLive first s.stations.items s.sessions.items → IsWholeHandle (Some (contents.Service s))
  pub whole_alone : (s : Service) → IsWholeHandle (Some (contents.Service s))
      → LiveScript s.stations.items s.sessions.items

-- the handle stands for a journal of which this is so
abbrev pub OfJournal : Option Content → (Journal → Type 0) → Type 0
OfJournal (Some (contents.Journal journal)) Told = Told journal
OfJournal other Told = ⊥

-- three clients want a lock that only one may hold
abbrev pub three_writers : ScriptData
three_writers = record {
  version = 1;
  nodes = 1;
  sets = record { name = codes "s"; family = 0 } ∷ [];
  clients =
      record { name = codes "a"; node = 0 } ∷
      record { name = codes "b"; node = 0 } ∷
      record { name = codes "c"; node = 0 } ∷
      [];
  commands = (0, Lock 0 Write) ∷ (1, Lock 0 Write) ∷ (2, Lock 0 Write) ∷ [];
}

-- at this clock the node makes the client's next command, with one line
abbrev pub client_moves : ℕ → ℕ → Event → Logged
client_moves clock client event =
    record { made = record { stamp = record { clock = clock; node = 0 }; step = Act client }; events = event ∷ [] }

-- one of them holds it, and two wait
abbrev pub one_holds : List Logged
one_holds =
    client_moves 1 0 (Grant 0 0 Write) ∷ client_moves 2 1 (Wait 1 0 Write) ∷ client_moves 3 2 (Wait 2 0 Write) ∷ []

-- this is so of the end that C is told of what isn't a journal, or is one
abbrev pub AfterEnd : Content → (ℕ → ℕ → ℕ → ℕ → ℕ → Type 0) → Type 0
AfterEnd content Told =
    (code was held waited waiting : ℕ) → HandleTellsEnd (Some content) code was held waited waiting
    → Told code was held waited waiting

-- what the journal tells of a service of this script that was finished
abbrev pub AfterFinish : ScriptData → (Service → ScriptData → List Logged → Type 0) → Type 0
AfterFinish first Told = (s : Service) (new : Option Content) → AreLive first s.stations.items s.sessions.items
    → HandleFinishes (Some (contents.Service s)) new
    → OfJournal new (λ journal.
    (script : ScriptData) × (run : List Logged) × Told s script run × TellsOf script run journal)

-- the journal tells of a run that serves the sessions, and of all that was made; and why there is none
pub record FinishesTold : Type 0 where
  pub served : (first : ScriptData) → AfterFinish first (λ s script run. IsServedRun first s.sessions.items script run)
  -- each station's moves, whether a reply to them was polled or not
  pub moves : (first : ScriptData) → AfterFinish first (λ s script run. (node : ℕ) (x : StationData)
      → slice_get s.stations.items node ≡ Some x → filter (is_of_node node) run ≡ x.runner.log.entries)
  -- all that was submitted, where nothing is in hand and all was taken
  pub commands : (first : ScriptData) → AfterFinish first (λ s script run. (client : ℕ) (t : Session) (seat : Seat)
      → slice_get s.sessions.items client ≡ Some t → IsOtherEnd s.stations.items (home first client) t seat
      → seat.hand ≡ None → taken seat ≡ submitted t → commands_of script client ≡ submitted t)
  -- and what its only station made one hold, and two wait for
  pub counted : (x : StationData) (s : Service) (new : Option Content) → s.stations.items ≡ x ∷ []
      → x.runner.node.script ≡ three_writers → x.runner.log.entries ≡ one_holds
      → AreLive (record three_writers { commands = [] }) s.stations.items s.sessions.items
      → HandleFinishes (Some (contents.Service s)) new
      → OfJournal new (λ journal. (journal.held ≡ 1) × (journal.waiting ≡ 2))
  pub read_back : (first : ScriptData) (s : Service) (new : Option Content)
      → AreLive first s.stations.items s.sessions.items → HandleFinishes (Some (contents.Service s)) new
      → OfJournal new (λ journal. (script : ScriptData) × (read_of journal.script.items ≡ Ok script))
  pub never_finished : (content : Content) (new : Option Content) → kind_of content ≢ 0
      → HandleFinishes (Some content) new → ⊥
  pub script : (script : ScriptData) (run : List Logged) (journal : Journal)
      → TellsOf script run journal → journal.script.items ≡ print_of script
  pub text : (script : ScriptData) (run : List Logged) (journal : Journal)
      → TellsOf script run journal → journal.text.items ≡ text_of script run None
  pub held : (journal : Journal) → TellsOf three_writers one_holds journal → journal.held ≡ 1
  pub waiting : (journal : Journal) → TellsOf three_writers one_holds journal → journal.waiting ≡ 2
  pub forgotten : (s : Service) → HaveAll (map runner_of s.stations.items)
      → HandleNotFinished 9 (Some (contents.Service s)) → ⊥
  pub forgot : (code : ℕ) (s : Service) → (HaveAll (map runner_of s.stations.items) → ⊥)
      → HandleNotFinished code (Some (contents.Service s)) → code ≡ 9
  pub forgotten_of_others : (content : Content) → kind_of content ≢ 0 → HandleNotFinished 9 (Some content) → ⊥
  pub too_many : (first : ScriptData) (s : Service) → AreLive first s.stations.items s.sessions.items
      → HandleNotFinished 10 (Some (contents.Service s))
      → AreTooMany (map runner_of s.stations.items) ⊎ (8 < length first.sets)
  pub too_many_of_others : (content : Content) → kind_of content ≢ 0 → HandleNotFinished 10 (Some content) → ⊥
  pub finish_codes : (code : ℕ) (content : Content) → HandleNotFinished code (Some content)
      → (code ≡ 2) ⊎ ((code ≡ 3) ⊎ ((code ≡ 9) ⊎ (code ≡ 10)))
  pub wrong : (s : Service) → IsNoService (Some (contents.Service s)) → ⊥
  pub end_code : (journal : Journal) → AfterEnd (contents.Journal journal) (λ code was held waited waiting. code ≡ 0)
  pub end_held : (journal : Journal)
      → AfterEnd (contents.Journal journal) (λ code was held waited waiting. held ≡ journal.held)
  pub end_waiting : (journal : Journal)
      → AfterEnd (contents.Journal journal) (λ code was held waited waiting. waiting ≡ journal.waiting)
  pub no_end : (content : Content) → kind_of content ≢ 3
      → AfterEnd content (λ code was held waited waiting. (code ≡ 2) × (held ≡ was) × (waiting ≡ waited))

-- of this text, from this byte on, so many bytes are copied to these old ones, which are the new ones then
abbrev pub IsCopied : List ℕ → ℕ → ℕ → List ℕ → List ℕ → Type 0
IsCopied text from count old new =
    (many : ℕ) (after : List ℕ) → CopiesFrom text from many old after → (many ≡ count) × (after ≡ new)

-- which bytes are copied
pub record CopiesTold : Type 0 where
  pub wide : IsCopied (codes "abc") 1 2 (codes "....") (codes "bc..")
  pub narrow : IsCopied (codes "abc") 0 1 (codes ".") (codes "a")
  pub behind : IsCopied (codes "abc") 5 0 (codes "..") (codes "..")
  pub text : (journal : Journal) → text_of_content (Some (contents.Journal journal)) ≡ journal.text.items
  pub script : (journal : Journal) → script_at (Some (contents.Journal journal)) ≡ journal.script.items
  pub no_text : (content : Content) → kind_of content ≢ 3 → text_of_content (Some content) ≡ []
  pub no_script : (content : Content) → kind_of content ≢ 3 → script_at (Some content) ≡ []

-- this is so of a service of the script that has all, and of what it is once it was told what it served
abbrev pub AfterServed : ScriptData → (Service → Service → Type 0) → Type 0
AfterServed first Told =
    (s : Service) (submits polls : ℕ) (new : Option Content) → AreLive first s.stations.items s.sessions.items
    → HandleTellsServed submits polls (Some (contents.Service s)) new → OfService new (λ t. Told s t)

-- this is so of what is counted at two sessions
abbrev pub CountedAtTwo : (Session → Session → ℕ → ℕ → Type 0) → Type 0
CountedAtTwo Told =
    (x y : Session) (stations : List StationData) (s : Service) (submits polls : ℕ) (new : Option Content)
    → HandleTellsServed submits polls (Some (contents.Service s)) new → HasThem stations (x ∷ y ∷ []) new
    → Told x y submits polls

-- nothing is told of a service that has these stations and sessions
abbrev pub NeverTold : List StationData → List Session → Type 0
NeverTold stations sessions =
    (submits polls : ℕ) (old new : Option Content) → HasThem stations sessions old
    → HandleTellsServed submits polls old new → ⊥

-- what is told of a service that goes on; and why nothing is
pub record ServedTold : Type 0 where
  pub served : (first : ScriptData) → AfterServed first (λ s t. IsServedNow first t.sessions.items)
  pub live : (first : ScriptData) → AfterServed first (λ s t. AreLive first t.stations.items t.sessions.items)
  pub stations : (first : ScriptData)
      → AfterServed first (λ s t. EachStation MakesNoMove s.stations.items t.stations.items)
  pub sessions : (first : ScriptData) → AfterServed first
      (λ s t. EachSession SaysSame s.sessions.items t.sessions.items)
  pub submitted_are : CountedAtTwo (λ x y submits polls. submits ≡ length (submitted x) + length (submitted y))
  pub polled_are : CountedAtTwo (λ x y submits polls. polls ≡ length (polled x) + length (polled y))
  pub no_station : (sessions : List Session) → NeverTold [] sessions
  pub a_station_out : (x : StationData) (sessions : List Session) → x.runner.node.script.nodes ≡ 2
      → NeverTold (x ∷ []) sessions
  pub a_session_out : (x : StationData) → x.runner.node.script ≡ client_script → NeverTold (x ∷ []) []
  pub never_of_others : (content : Content) (submits polls : ℕ) (new : Option Content) → kind_of content ≢ 0
      → HandleTellsServed submits polls (Some content) new → ⊥
  pub all_back : (first : ScriptData) (s : Service) (code : ℕ) → AreLive first s.stations.items s.sessions.items
      → HandleNotTold code (Some (contents.Service s)) → ⊥
  pub nothing_of_others : (content : Content) → kind_of content ≢ 0 → HandleNotTold 1 (Some content) → ⊥
  pub wrong : (s : Service) → HandleNotTold 2 (Some (contents.Service s)) → ⊥
  pub served_codes : (code : ℕ) (content : Content) → HandleNotTold code (Some content) → (code ≡ 1) ⊎ (code ≡ 2)
  pub whole : (first : ScriptData) (s : Service) → AreLive first s.stations.items s.sessions.items
      → IsWholeHandleIfAll (Some (contents.Service s))
  pub may_lack : (s : Service) → s.stations.items ≡ [] → IsWholeHandleIfAll (Some (contents.Service s))
