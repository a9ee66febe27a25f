-- What follows where a service is opened or finished, and of its journal.
use Rattle.std.proofs.Common.{◌≡◌, ◌≢◌, ◌<◌, ◌≤◌, ◌⊎◌, inl, inr, map, ◌++◌, ◌∷◌, [], ℕ, List, Result, Ok, Err, Option, Some, None, true, refl, sym, ap, subst, codes, count_by, drop, length, take, le-leb, lt-ltb, ◌∙◌, filter, slice_get, option_map, append-nil}
use Rattle.std.proofs.lemmas.Option.{slice_get-map}
use Rattle.std.proofs.lemmas.Bool.{and_from, false≢true}
use Rattle.lt_modes.specs.declared.command.Command.{Command}
use Rattle.lt_modes.specs.declared.command.Command.TheVariants.{Lock}
use Rattle.lt_modes.specs.declared.mode.Mode.TheVariants.{Write}
use Rattle.lt_modes.specs.Modes.{conflicts}
use Rattle.lt_modes.specs.Script.{ScriptData}
use Rattle.lt_spec.specs.declared.moves.TheConstants.{MAX_MOVES_OF_SERVICE}
use Rattle.lt_spec.specs.declared.limits.TheConstants.{MAX_COMMANDS}
use Rattle.lt_spec.specs.Script.{IsScript, IsShort}
use Rattle.lt_spec.specs.World.{Logged, is_of_node}
use Rattle.lt_spec.specs.NodeMove.{commands_of, with_commands}
use Rattle.lt_merge.specs.Merging.{both_merged}
use Rattle.lt_text.specs.Text as text
use Rattle.lt_script.specs.declared.fault.Fault.TheVariants as faults
use Rattle.lt_script.specs.declared.fault.ScriptFault.{ScriptFault}
use Rattle.lt_script.specs.Printing.{print_of}
use Rattle.lt_script.specs.Reading.{read_of}
use Rattle.lt_script.specs.Reading as reading
use Rattle.lt_journal.specs.RunLines.{closing_lines}
use Rattle.lt_live.specs.Live.{AreLive, IsServedRun, IsRunOfService}
use Rattle.lt_threads.specs.Meeting.{AreTooMany, commands_in, crew_run}
use Rattle.lt_live.specs.Stations.{StationData, IsOpen, most_share, runner_of}
use Rattle.lt_live.specs.Seats.{HasAllCommands}
use Rattle.lt_live.specs.Words.{submitted, taken, command_held}
use Rattle.lt_live.specs.declared.ends.Session.{Session}
use Rattle.lt_live.specs.declared.ends.Seat.{Seat}
use Rattle.lt_live_c.specs.declared.content.Content.{Content}
use Rattle.lt_live_c.specs.declared.content.Content.TheVariants as contents
use Rattle.lt_live_c.specs.declared.journal.Journal.{Journal}
use Rattle.lt_live_c.specs.declared.service.Service.{Service}
use Rattle.lt_live_c.specs.Opening.{HandleOpened, IsOpenedFrom, OpenRefused, fits_for_c}
use Rattle.lt_live_c.specs.Journals.{HandleFinishes, HandleNotFinished, TellsOf, CopiesFrom, says_held, says_waiting, text_of_content, script_at}
use Rattle.lt_live_c.specs.Told.{kind_of}
use Rattle.lt_live_c.specs.ServicesTold.{OfService, client_text, client_script, OpensTold, OfJournal, three_writers, one_holds, AfterEnd, AfterFinish, FinishesTold, IsCopied, CopiesTold}

-- What is opened.

abbrev pub with_command : ScriptData
with_command = record client_script { commands = (0, Lock 0 Write) ∷ [] }

pub client_read : read_of client_text ≡ Ok with_command
unfolding reading.script_body reading.read_from text.lines text.cut_at reading.line_step text.words
client_read = refl

abbrev pub no_nodes : ScriptFault
no_nodes = record { line = 1; fault = faults.Nodes }

pub nothing_read : read_of [] ≡ Err no_nodes
unfolding reading.script_body reading.read_from text.lines text.cut_at reading.line_step text.words
nothing_read = refl

pub same_script : (a b : ScriptData) (read : Result ScriptData ScriptFault) → read ≡ Ok a → read ≡ Ok b → a ≡ b
same_script a b read e f = cc

pub script_or_fault : (script : ScriptData) (fault : ScriptFault) (read : Result ScriptData ScriptFault)
    → read ≡ Ok script → read ≡ Err fault → ⊥
script_or_fault script fault read e f = cc

opened_so : (s : Service) → IsOpenedFrom client_text 9 2 s
    → IsOpen client_script 9 2 576460752303423488 s.stations.items s.sessions.items
opened_so s h =
    let same = same_script h.0 with_command (read_of client_text) h.1 client_read in
    subst (λ (script : ScriptData). IsOpen (record script { commands = [] }) 9 2 (most_share script) s.stations.items s.sessions.items) same h.2

opened : (new : Option Content) → HandleOpened client_text 9 2 new
    → OfService new (λ s. IsOpen client_script 9 2 576460752303423488 s.stations.items s.sessions.items)
opened None h = absurd h
opened (Some (contents.Service s)) h = opened_so s h
opened (Some (contents.Station other)) h = absurd h
opened (Some (contents.Session other)) h = absurd h
opened (Some (contents.Journal other)) h = absurd h
opened (Some (contents.Node other)) h = absurd h

never_opened : (new : Option Content) → HandleOpened [] 9 2 new → ⊥
never_opened None h = h
never_opened (Some (contents.Service s)) h = script_or_fault h.0 no_nodes (read_of []) h.1 nothing_read
never_opened (Some (contents.Station other)) h = h
never_opened (Some (contents.Session other)) h = h
never_opened (Some (contents.Journal other)) h = h
never_opened (Some (contents.Node other)) h = h

pub fits : (bytes : List ℕ) (limit places : ℕ)
    → length bytes ≤ 1048576 → 0 < limit → limit ≤ 36028797018963968 → 0 < places → places ≤ 4096
    → fits_for_c bytes limit places ≡ true
fits bytes limit places few some_moves few_moves some_places few_places =
    and_from _ _ (le-leb (length bytes) 1048576 few)
    (and_from _ _
    (and_from _ _ (lt-ltb 0 limit some_moves) (le-leb limit MAX_MOVES_OF_SERVICE few_moves))
    (and_from _ _ (lt-ltb 0 places some_places) (le-leb places MAX_COMMANDS few_places)))

no_fault : (bytes : List ℕ) (limit places : ℕ) (script : ScriptData)
    → read_of bytes ≡ Ok script → OpenRefused 5 bytes limit places → ⊥
no_fault bytes limit places script read h =
    let fault = h.bad_script refl in
    script_or_fault script fault.0 (read_of bytes) read fault.1

pub opens_told : OpensTold
opens_told = record {
  opened = opened;
  never_opened = never_opened;
  in_range = λ bytes limit places few some_moves few_moves some_places few_places h.
      false≢true (sym (h.bad_argument refl) ∙ fits bytes limit places few some_moves few_moves some_places few_places);
  out_of_range = λ code bytes limit places not h. h.unfit not;
  no_fault = no_fault;
  open_codes = λ code bytes limit places h. h.only;
  whole = λ first s live. (first, live);
  whole_alone = λ s whole. whole;
}

-- What is finished.

-- what follows of the run that was made
finished : (first : ScriptData) (Told : Service → ScriptData → List Logged → Type 0)
    → ((s : Service) (script : ScriptData) (run : List Logged) → AreLive first s.stations.items s.sessions.items
    → IsRunOfService first s.stations.items s.sessions.items script run → Told s script run) → AfterFinish first Told
finished first Told told s None live h = absurd h
finished first Told told s (Some (contents.Service other)) live h = absurd h
finished first Told told s (Some (contents.Station other)) live h = absurd h
finished first Told told s (Some (contents.Session other)) live h = absurd h
finished first Told told s (Some (contents.Node other)) live h = absurd h
finished first Told told s (Some (contents.Journal journal)) live h =
    let made = h first live in (made.0, made.1, told s made.0 made.1 live made.2, made.4)

moves_so : (first : ScriptData) (s : Service) (script : ScriptData) (run : List Logged) → IsRunOfService first s.stations.items s.sessions.items script run
    → (node : ℕ) (x : StationData) → slice_get s.stations.items node ≡ Some x → filter (is_of_node node) run ≡ x.runner.log.entries
moves_so first s script run whole node x here =
    whole.made.moves node x.runner (slice_get-map runner_of s.stations.items node ∙ ap (option_map runner_of) here)

commands_so : (list : List Command) (t : Session) (seat : Seat) → HasAllCommands list t seat → seat.hand ≡ None → taken seat ≡ submitted t → list ≡ submitted t
commands_so list t seat h none all =
    sym (append-nil list) ∙ sym (ap (λ (hand : Option Command). list ++ command_held hand) none) ∙ sym h.taken ∙ all

one_held : count_by says_held (closing_lines three_writers one_holds None) ≡ 1
unfolding conflicts
one_held = refl

two_wait : count_by says_waiting (closing_lines three_writers one_holds None) ≡ 2
unfolding conflicts
two_wait = refl

held_so : (journal : Journal) → TellsOf three_writers one_holds journal → journal.held ≡ 1
held_so journal h = h.held ∙ one_held

waiting_so : (journal : Journal) → TellsOf three_writers one_holds journal → journal.waiting ≡ 2
waiting_so journal h = h.waiting ∙ two_wait

-- the script and the run of a service with one station
script_so : (x : StationData) (script : ScriptData) → x.runner.node.script ≡ three_writers → script ≡ with_commands three_writers script.commands
    → script.commands ≡ commands_in (map runner_of (x ∷ [])) → script ≡ three_writers
script_so x script own same commands =
    same ∙ ap (λ (list : List (ℕ × Command)). with_commands three_writers list) (commands ∙ ap (λ (one : ScriptData). one.commands ++ []) own)

run_so : (x : StationData) (run : List Logged) → x.runner.log.entries ≡ one_holds → run ≡ crew_run three_writers (map runner_of (x ∷ [])) → run ≡ one_holds
run_so x run log made = made ∙ ap (λ (entries : List Logged). both_merged entries []) log

counted_so : (x : StationData) (s : Service) (new : Option Content) → s.stations.items ≡ x ∷ []
    → x.runner.node.script ≡ three_writers → x.runner.log.entries ≡ one_holds
    → AreLive (record three_writers { commands = [] }) s.stations.items s.sessions.items
    → HandleFinishes (Some (contents.Service s)) new
    → OfJournal new (λ journal. (journal.held ≡ 1) × (journal.waiting ≡ 2))
counted_so x s None is own log live h = absurd h
counted_so x s (Some (contents.Service other)) is own log live h = absurd h
counted_so x s (Some (contents.Station other)) is own log live h = absurd h
counted_so x s (Some (contents.Session other)) is own log live h = absurd h
counted_so x s (Some (contents.Node other)) is own log live h = absurd h
counted_so x s (Some (contents.Journal journal)) is own log live h =
    let made = h (record three_writers { commands = [] }) live in
    let whole : IsRunOfService (record three_writers { commands = [] }) (x ∷ []) s.sessions.items made.0 made.1 =
    subst (λ (stations : List StationData). IsRunOfService (record three_writers { commands = [] }) stations s.sessions.items made.0 made.1) is made.2 in
    let script = script_so x made.0 own whole.served.same whole.made.commands in
    let run = run_so x made.1 log (whole.made.is_crew_run ∙ ap (λ (one : ScriptData). crew_run one (map runner_of (x ∷ []))) script) in
    let tells : TellsOf three_writers one_holds journal =
    subst (λ (one : ScriptData). TellsOf one one_holds journal) script (subst (λ (moves : List Logged). TellsOf made.0 moves journal) run made.4) in
    (held_so journal tells, waiting_so journal tells)

-- the text of a short script can be read
abbrev pub Prints : Type 0
Prints = (s : ScriptData) → IsScript s → IsShort s → read_of (print_of s) ≡ Ok s

read_again : Prints → (first : ScriptData) (s : Service) (new : Option Content) → AreLive first s.stations.items s.sessions.items
    → HandleFinishes (Some (contents.Service s)) new
    → OfJournal new (λ journal. (script : ScriptData) × (read_of journal.script.items ≡ Ok script))
read_again prints first s None live h = absurd h
read_again prints first s (Some (contents.Service other)) live h = absurd h
read_again prints first s (Some (contents.Station other)) live h = absurd h
read_again prints first s (Some (contents.Session other)) live h = absurd h
read_again prints first s (Some (contents.Node other)) live h = absurd h
read_again prints first s (Some (contents.Journal journal)) live h =
    let made = h first live in
    (made.0, ap read_of made.4.script_is ∙ prints made.0 made.2.served.is_script made.3)

never_finished : (content : Content) (new : Option Content) → kind_of content ≢ 0
    → HandleFinishes (Some content) new → ⊥
never_finished (contents.Service s) new other h = other refl
never_finished (contents.Station x) None other h = h
never_finished (contents.Station x) (Some b) other h = h
never_finished (contents.Session s) None other h = h
never_finished (contents.Session s) (Some b) other h = h
never_finished (contents.Journal journal) None other h = h
never_finished (contents.Node node) None other h = h
never_finished (contents.Journal journal) (Some b) other h = h
never_finished (contents.Node node) (Some b) other h = h

no_end : (content : Content) → kind_of content ≢ 3
    → AfterEnd content (λ code was held waited waiting. (code ≡ 2) × (held ≡ was) × (waiting ≡ waited))
no_end (contents.Service s) other code was held waited waiting h = h
no_end (contents.Station x) other code was held waited waiting h = h
no_end (contents.Session s) other code was held waited waiting h = h
no_end (contents.Journal journal) other code was held waited waiting h = absurd (other refl)
no_end (contents.Node node) other code was held waited waiting h = h

too_many_so : (content : Content) → kind_of content ≢ 0 → HandleNotFinished 10 (Some content) → ⊥
too_many_so (contents.Service s) other h = other refl
too_many_so (contents.Station x) other h = h.many refl
too_many_so (contents.Session s) other h = h.many refl
too_many_so (contents.Journal journal) other h = h.many refl
too_many_so (contents.Node node) other h = h.many refl

forgotten_so : (content : Content) → kind_of content ≢ 0 → HandleNotFinished 9 (Some content) → ⊥
forgotten_so (contents.Service s) other h = other refl
forgotten_so (contents.Station x) other h = h.forgotten refl
forgotten_so (contents.Session s) other h = h.forgotten refl
forgotten_so (contents.Journal journal) other h = h.forgotten refl
forgotten_so (contents.Node node) other h = h.forgotten refl

many_so : (first : ScriptData) (s : Service) → AreLive first s.stations.items s.sessions.items → HandleNotFinished 10 (Some (contents.Service s))
    → AreTooMany (map runner_of s.stations.items) ⊎ (8 < length first.sets)
many_so first s live h = elim (h.many refl) [ inl commands ↦ inl commands | inr sets ↦ inr (sets first live) ]

pub finishes_told : Prints → FinishesTold
finishes_told prints = record {
  served = λ first. finished first (λ s script run. IsServedRun first s.sessions.items script run) (λ s script run live whole. whole.served);
  moves = λ first. finished first _ (λ s script run live whole. moves_so first s script run whole);
  commands = λ first. finished first _ (λ s script run live whole client t seat here end.
      commands_so (commands_of script client) t seat (whole.all client t seat here end));
  counted = counted_so;
  read_back = read_again prints;
  never_finished = never_finished;
  script = λ script run journal h. h.script_is;
  text = λ script run journal h. h.text_is;
  held = held_so;
  waiting = waiting_so;
  forgotten = λ s all h. h.forgotten refl all;
  forgot = λ code s not h. h.forgot not;
  forgotten_of_others = forgotten_so;
  too_many = many_so;
  too_many_of_others = too_many_so;
  finish_codes = λ code content h. h.only;
  wrong = λ s h. false≢true (sym h);
  end_code = λ journal code was held waited waiting h. h.0;
  end_held = λ journal code was held waited waiting h. h.1;
  end_waiting = λ journal code was held waited waiting h. h.2;
  no_end = no_end;
}

-- What is copied.

copied : (bytes : List ℕ) (from count : ℕ) (old : List ℕ)
    → ((many : ℕ) (after : List ℕ) → CopiesFrom bytes from many old after → many ≡ count)
    → IsCopied bytes from count old (take count (drop from bytes) ++ drop count old)
copied bytes from count old counted many after h =
    let is = counted many after h in
    (is, h.bytes ∙ ap (λ (n : ℕ). take n (drop from bytes) ++ drop n old) is)

no_text : (content : Content) → kind_of content ≢ 3 → text_of_content (Some content) ≡ []
no_text (contents.Service s) other = refl
no_text (contents.Station x) other = refl
no_text (contents.Session s) other = refl
no_text (contents.Journal journal) other = absurd (other refl)
no_text (contents.Node node) other = refl

no_script : (content : Content) → kind_of content ≢ 3 → script_at (Some content) ≡ []
no_script (contents.Service s) other = refl
no_script (contents.Station x) other = refl
no_script (contents.Session s) other = refl
no_script (contents.Journal journal) other = absurd (other refl)
no_script (contents.Node node) other = refl

pub copies_told : CopiesTold
copies_told = record {
  wide = copied (codes "abc") 1 2 (codes "....") (λ many after h. h.many);
  narrow = copied (codes "abc") 0 1 (codes ".") (λ many after h. h.many);
  behind = copied (codes "abc") 5 0 (codes "..") (λ many after h. h.many);
  text = λ journal. refl;
  script = λ journal. refl;
  no_text = no_text;
  no_script = no_script;
}
