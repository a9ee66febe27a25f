-- What a node of a run writes is read as its moves.
use Rattle.std.proofs.Common.{◌≡◌, ◌<◌, ◌≤◌, ◌==◌, ℕ, zero, suc, Bool, true, false, cond, List, [], ◌∷◌, ◌++◌, length, map, filter, fold, Option, Some, None, refl, sym, ap, subst, ◌∙◌, arith, slice_get, append-nil, append_assoc, length-append, eq-eqb}
use Rattle.std.specs.List.{AllByRecursion, list_all}
use Rattle.std.proofs.lemmas.Bool.{and_from}
use Rattle.std.proofs.lemmas.List.Sums.{fold-append}
use Rattle.std.proofs.lemmas.Option.{slice_get_within}
use Rattle.lt_modes.specs.declared.event.Event.{Event}
use Rattle.lt_modes.specs.Script.{ScriptData}
use Rattle.lt_lists.proofs.Members.{some_equal}
use Rattle.lt_lists.proofs.AllLemmas.{all_append, all_front, all_back}
use Rattle.lt_spec.specs.NodeMove.{with_commands}
use Rattle.lt_spec.specs.Script.{IsScript, IsShort}
use Rattle.lt_spec.specs.World.{Logged, start, is_of_node}
use Rattle.lt_script.proofs.RoundTrip.{read_printed}
use Rattle.lt_merge.specs.Merging.{just_made, with_event, AreRising, IsBefore}
use Rattle.lt_journal.specs.declared.line.Line.{Line}
use Rattle.lt_journal.specs.declared.line.Line.TheVariants.{Version2, Version3, Cut}
use Rattle.lt_journal.specs.Grammar.{journal_of}
use Rattle.lt_journal.specs.LineFits.{FitsLine}
use Rattle.lt_journal.specs.RunLines.{shown_event, event_lines, entry_lines, moves_lines, first_lines, closing_lines, run_lines, text_of}
use Rattle.lt_journal.proofs.Written.{named, few_nodes, read_back}
use Rattle.lt_law_journals.proofs.Accepting.{all_fit}
use Rattle.lt_law_plays.proofs.PlayLemmas.{plays_rise}
use Rattle.lt_law_apart.specs.Apart.{NodeNow, commands_apart, script_apart, run_apart}
use Rattle.lt_law_apart.proofs.Apart.{apart_run, apart_script}
use Rattle.lt_join.specs.Parts.{NodeSaid, SaidSoFar, nothing_said, moves_behind, event_said, said_after, comes_before, is_rising, are_own, node_said, lines_said, said_by_script, said_in, shown_entry, text_of_node}
use Rattle.lt_join.specs.JoinLaws.{AreShortApart, PartsAreRead}

-- The lines of moves, read as moves.

abbrev said_of : List Logged → Option SaidSoFar
said_of log = Some (record { log = log; node = None })

-- the entry with an event more
abbrev with_more : Logged → List Event → Logged
with_more entry events = record entry { events = entry.events ++ events }

last_more : (front : List Logged) (entry : Logged) (event : Event)
    → with_event (front ++ entry ∷ []) event ≡ front ++ with_more entry (event ∷ []) ∷ []
last_more [] entry event = refl
last_more (first ∷ []) entry event = refl
last_more (first ∷ second ∷ rest) entry event = ap (λ (log : List Logged). first ∷ log) (last_more (second ∷ rest) entry event)

event_more : (front : List Logged) (entry : Logged) (event : Event)
    → event_said (front ++ entry ∷ []) event ≡ said_of (front ++ with_more entry (event ∷ []) ∷ [])
event_more [] entry event = refl
event_more (first ∷ rest) entry event = ap said_of (last_more (first ∷ rest) entry event)

-- the lines of events behind a move
events_more : (v : ℕ) (front : List Logged) (entry : Logged) (events : List Event)
    → fold said_after (said_of (front ++ entry ∷ [])) (event_lines v events)
    ≡ said_of (front ++ with_more entry (map (shown_event v) events) ∷ [])
events_more v front entry [] =
    ap (λ (events : List Event). said_of (front ++ record entry { events = events } ∷ [])) (sym (append-nil entry.events))
events_more v front entry (event ∷ events) =
    ap (λ (said : Option SaidSoFar). fold said_after said (event_lines v events)) (event_more front entry (shown_event v event))
    ∙ events_more v front (with_more entry (shown_event v event ∷ [])) events
    ∙ ap (λ (all : List Event). said_of (front ++ record entry { events = all } ∷ []))
    (append_assoc entry.events (shown_event v event ∷ []) (map (shown_event v) events))

-- the lines of moves
moves_more : (v : ℕ) (front log : List Logged)
    → fold said_after (said_of front) (moves_lines v log) ≡ said_of (front ++ map (shown_entry v) log)
moves_more v front [] = ap said_of (sym (append-nil front))
moves_more v front (entry ∷ log) =
    fold-append said_after (said_of front) (entry_lines v entry) (moves_lines v log)
    ∙ ap (λ (said : Option SaidSoFar). fold said_after said (moves_lines v log)) (events_more v front (just_made entry.made) entry.events)
    ∙ moves_more v (front ++ shown_entry v entry ∷ []) log
    ∙ ap said_of (append_assoc front (shown_entry v entry ∷ []) (map (shown_entry v) log))

-- and the line `cut` at the end
moves_said : (v x : ℕ) (log : List Logged)
    → fold said_after (Some nothing_said) (moves_lines v log ++ Cut x ∷ []) ≡ Some (record { log = map (shown_entry v) log; node = Some x })
moves_said v x log =
    fold-append said_after (Some nothing_said) (moves_lines v log) (Cut x ∷ [])
    ∙ ap (λ (said : Option SaidSoFar). said_after said (Cut x)) (moves_more v [] log)

-- the line of the version stands before them, where there is one
behind_first : (v : ℕ) (lines : List Line) → moves_behind (first_lines v) (first_lines v ++ lines) ≡ Some lines
behind_first v lines = by_version (v == 1) (v == 2)
  where
    first : Bool → Bool → List Line
    first one two = cond one [] (cond two (Version2 ∷ []) (Version3 ∷ []))

    by_version : (one two : Bool) → moves_behind (first one two) (first one two ++ lines) ≡ Some lines
    by_version true two = refl
    by_version false true = refl
    by_version false false = refl

-- The moves are those of one node.

of_node : (v x : ℕ) (P : Logged → Type 0) → ((entry : Logged) → P entry → entry.made.stamp.node ≡ x)
    → (log : List Logged) → AllByRecursion P log → list_all (is_of_node x) (map (shown_entry v) log) ≡ true
of_node v x P own [] all = refl
of_node v x P own (entry ∷ log) all =
    and_from (entry.made.stamp.node == x) (list_all (is_of_node x) (map (shown_entry v) log))
    (eq-eqb entry.made.stamp.node x (own entry all.0)) (of_node v x P own log all.1)

before_others : (v : ℕ) (entry : Logged) (log : List Logged) → AllByRecursion (IsBefore entry) log
    → comes_before (shown_entry v entry) (map (shown_entry v) log) ≡ true
before_others v entry [] all = refl
before_others v entry (other ∷ others) all = all.0

in_order : (v : ℕ) (log : List Logged) → AreRising log → is_rising (map (shown_entry v) log) ≡ true
in_order v [] rising = refl
in_order v (entry ∷ log) rising =
    and_from (comes_before (shown_entry v entry) (map (shown_entry v) log)) (is_rising (map (shown_entry v) log))
    (before_others v entry log rising.0) (in_order v log rising.1)

-- The lines of a node's moves fit, since those of the run do.

filtered_fit : (P : Line → Type 0) (v : ℕ) (test : Logged → Bool) (run : List Logged) → AllByRecursion P (moves_lines v run)
    → AllByRecursion P (moves_lines v (filter test run))
filtered_fit P v test [] all = tt
filtered_fit P v test (entry ∷ run) all =
    by_test (test entry) (filtered_fit P v test run (all_back P (entry_lines v entry) (moves_lines v run) all))
  where
    by_test : (passes : Bool) → AllByRecursion P (moves_lines v (filter test run))
        → AllByRecursion P (moves_lines v (cond passes (entry ∷ filter test run) (filter test run)))
    by_test true later =
        all_append P (entry_lines v entry) (moves_lines v (filter test run))
        (all_front P (entry_lines v entry) (moves_lines v run) all) later
    by_test false later = later

-- a node has no more commands than all have
pub few_of_one : (nodes : List NodeNow) (x : ℕ) (n : NodeNow) → slice_get nodes x ≡ Some n → length n.commands ≤ length (commands_apart nodes)
few_of_one [] x n here = absurd (cc)
few_of_one (m ∷ nodes) zero n here =
    omega (arith, length-append m.commands (commands_apart nodes), ap (λ (k : NodeNow). length k.commands) (some_equal m n here))
few_of_one (m ∷ nodes) (suc x) n here = omega (arith, length-append m.commands (commands_apart nodes), few_of_one nodes x n here)

module _ (first : ScriptData) (nodes : List NodeNow) (h : AreShortApart first nodes) where
  -- the script with the commands of all is one
  pub whole_is_script : IsScript (script_apart first nodes)
  whole_is_script = apart_script first nodes h.apart (omega (arith, h.short.commands))

  module _ (x : ℕ) (n : NodeNow) (here : slice_get nodes x ≡ Some n) where
    abbrev own : ScriptData
    own = with_commands first n.commands

    -- the lines of its text
    abbrev own_lines : List Line
    own_lines = run_lines own n.part.log (Some x)

    own_is_script : IsScript own
    own_is_script = (h.apart.each x n here).is_script

    own_short : IsShort own
    own_short = record { sets = h.short.sets; commands = omega (arith, few_of_one nodes x n here, h.short.commands) }

    fit : AllByRecursion (FitsLine own) own_lines
    fit =
        let all = script_apart first nodes in
        let run = run_apart first nodes in
        let made = apart_run first nodes h.apart in
        let fits = all_fit all run whole_is_script h.short made.is_run in
        let moves = all_front (FitsLine all) (moves_lines first.version run) (closing_lines all run None)
        (all_back (FitsLine all) (first_lines first.version) (moves_lines first.version run ++ closing_lines all run None) fits) in
        let its : AllByRecursion (FitsLine own) (moves_lines first.version n.part.log) =
        subst (λ (log : List Logged). AllByRecursion (FitsLine own) (moves_lines first.version log)) (made.moves x n here)
        (filtered_fit (FitsLine own) first.version (is_of_node x) run moves) in
        let inside : x < first.nodes = omega (arith, slice_get_within nodes x n here, h.apart.count) in
        all_append (FitsLine own) (first_lines first.version) (moves_lines first.version n.part.log ++ Cut x ∷ [])
        (all_front (FitsLine own) (first_lines first.version) (moves_lines first.version run ++ closing_lines all run None) fits)
        (all_append (FitsLine own) (moves_lines first.version n.part.log) (Cut x ∷ []) its (inside, tt))

    its_lines : journal_of own (text_of own n.part.log (Some x)) ≡ own_lines
    its_lines = read_back own own_lines (named own own_is_script) (few_nodes own own_is_script) fit

    abbrev its_log : List Logged
    its_log = map (shown_entry first.version) n.part.log

    of_one : are_own x its_log ≡ true
    of_one =
        let rise = plays_rise own x n.part.log ((start first).node x) n.part.last n.part.used n.part.sent (h.apart.each x n here).plays in
        and_from (list_all (is_of_node x) its_log) (is_rising its_log)
        (of_node first.version x _ (λ entry own. own.0) n.part.log rise.1) (in_order first.version n.part.log rise.0)

    is_read : said_in (text_of_node first x n) ≡ Some (record { script = own; node = x; log = its_log })
    is_read =
        ap (λ told. said_by_script told (text_of own n.part.log (Some x))) (read_printed own own_is_script own_short)
        ∙ ap (λ (lines : List Line). lines_said own (moves_behind (first_lines first.version) lines)) its_lines
        ∙ ap (lines_said own) (behind_first first.version (moves_lines first.version n.part.log ++ Cut x ∷ []))
        ∙ ap (node_said own) (moves_said first.version x n.part.log)
        ∙ ap (λ (one : Bool). cond one (Some all_its) None) of_one
      where
        all_its : NodeSaid
        all_its = record { script = own; node = x; log = its_log }

pub parts_are_read : PartsAreRead
parts_are_read first nodes x n h here = is_read first nodes h x n here
