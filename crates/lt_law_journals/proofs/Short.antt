-- Every run of a script fits its lines.
use Rattle.std.proofs.Common.{ℕ, ◌+◌, ◌<◌, ◌≤◌, ◌^◌, List, [], ◌∷◌, length, fold, Option, true, false, arith, length-append, ◌≡◌, suc, ◌*◌, cond, Bool, map, filter, codes, refl, flat_map, decimal, leb-true}
use Rattle.std.proofs.lemmas.List.Elements.{All-weaker, recursion_from_All}
use Rattle.std.proofs.lemmas.List.Sums.{sum_by-cons, length-filter, count_by-le-length}
use Rattle.std.specs.List.{AllByRecursion}
use Rattle.std.proofs.lemmas.Bool.{and_parts}
use Rattle.std.proofs.lemmas.Fmt.{length-decimal-le}
use Rattle.lt_modes.specs.declared.command.Command.{Command}
use Rattle.lt_modes.specs.declared.command.Command.TheVariants as command
use Rattle.lt_modes.specs.declared.moves.Step.{Step}
use Rattle.lt_modes.specs.declared.moves.Step.TheVariants.{Act, Take}
use Rattle.lt_modes.specs.declared.event.Event.{Event}
use Rattle.lt_modes.specs.declared.event.Event.TheVariants.{Grant, Wait, Try, Unlock, NotHeld, Change, DropAll, Busy, Withdraw, Withdrawn, Void, Withheld, Copy, Freeze, Token}
use Rattle.lt_modes.specs.Script.{ScriptData, set_name, client_name}
use Rattle.lt_modes.specs.declared.mode.Mode.{Mode}
use Rattle.lt_modes.specs.Modes.{Modes, word_of, has, has_none, modes_in_order}
use Rattle.lt_modes.proofs.ModeAlgebra.{word_length}
use Rattle.lt_spec.specs.NodeMove.{HasTargetsAt, IsWhole}
use Rattle.lt_spec.specs.World.{Logged, IsRun}
use Rattle.lt_spec.specs.Holdings.{Holding, holding, without_one, after_line, lines_of}
use Rattle.lt_spec.specs.Script.{IsScript, IsRequest, is_name}
use Rattle.lt_spec.specs.Script as of_script
use Rattle.lt_spec.specs.declared.limits.TheConstants.{MAX_NAME}
use Rattle.lt_lists.proofs.AllLemmas.{all_weaker, all_both}
use Rattle.lt_text.specs.Text.{after_space, spaced}
use Rattle.lt_tally.proofs.Telling.{length-without, length-kept}
use Rattle.lt_journal.specs.LineFits.{FitsStep, FitsEvent, FitsCut, IsNumber, HasNode, HasSet, HasClient, FitsLine}
use Rattle.lt_journal.proofs.Fitting.{FitsEntry, FitsRun}
use Rattle.lt_journal.proofs.Written.{few_nodes}
use Rattle.lt_journal.specs.RunLines.{words_of_modes, word_of_bool, step_words, event_words, line_words}
use Rattle.lt_journal.specs.declared.line.Line.{Line}
use Rattle.lt_journal.specs.declared.line.Line.TheVariants.{Version2, Version3, Move as MoveLine, Event as EventLine, Held, Waiting, Owner, End, Cut, Bad}
use Rattle.lt_model.specs.Homes.{adds, added_by, HasMaker, IsLineWithin, IsEntryWithin}
use Rattle.lt_model.proofs.LinesInRuns.{lines_in_runs, few_added}
use Rattle.lt_law_journals.specs.Checking.{written}
use Rattle.lt_law_journals.proofs.OwnVersion.{IsLineOf, of_third, own_lines}

targets : (script : ScriptData) (client : ℕ) (request : Command) → of_script.HasTargets script.sets script.clients client request
    → HasTargetsAt script client request
targets script client (command.Lock set mode) h = h
targets script client (command.Try set mode) h = h
targets script client (command.Unlock set mode) h = h
targets script client (command.Change set gives_up mode) h = h
targets script client (command.DropAll other set) h = h
targets script client (command.Withdraw other set) h = h

-- a script names what is of it
pub whole : (script : ScriptData) → IsScript script → IsWhole script
whole script is_script = record {
  some_node = is_script.some_node;
  homes = is_script.homes;
  commands = All-weaker (IsRequest script.sets script.clients) (λ (request : ℕ × Command). HasTargetsAt script request.0 request.1)
      (λ request h. targets script request.0 request.1 h.1) script.commands is_script.requests;
}

step_fits : (script : ScriptData) (step : Step) → HasMaker script step → FitsStep script step
step_fits script (Act client) h = h
step_fits script (Take from) h = h

line_fits : (script : ScriptData) (bound : ℕ) (line : Event) → bound < 2 ^ 64 → IsLineWithin script bound line → IsLineOf script line → FitsEvent script line
line_fits script bound (Grant client set mode) few h own = h
line_fits script bound (Wait client set mode) few h own = h
line_fits script bound (Try client set mode got) few h own = h
line_fits script bound (Unlock client set mode) few h own = h
line_fits script bound (NotHeld client set mode) few h own = h
line_fits script bound (Change client set gives_up mode) few h own = h
line_fits script bound (DropAll client other set count) few h own = (h.0, h.1, h.2, omega (arith, h.3, few))
line_fits script bound (Busy client other set) few h own = h
line_fits script bound (Withdraw client other set got) few h own = (h.0, h.1, h.2, of_third own)
line_fits script bound (Withdrawn client set mode) few h own = (h.0, h.1, of_third own)
line_fits script bound (Void client set mode) few h own = (h.0, h.1, of_third own)
line_fits script bound (Withheld client set mode) few h own = (h.0, h.1, of_third own)
line_fits script bound (Copy set to client mode) few h own = h
line_fits script bound (Freeze set to number modes) few h own = (h.0, h.1, omega (arith, h.2, few))
line_fits script bound (Token set to epoch) few h own = (h.0, h.1, omega (arith, h.2, few))

entry_fits : (script : ScriptData) (bound : ℕ) (entry : Logged) → bound < 2 ^ 64 → IsEntryWithin script bound entry × AllByRecursion (IsLineOf script) entry.events → FitsEntry script entry
entry_fits script bound entry few h = (
  (omega (arith, h.0.made.clock, few), h.0.made.node, step_fits script entry.made.step h.0.made.maker),
  all_weaker (λ line. IsLineWithin script bound line × IsLineOf script line) (FitsEvent script) (λ line both. line_fits script bound line few both.0 both.1) entry.events
      (all_both (IsLineWithin script bound) (IsLineOf script) entry.events (recursion_from_All (IsLineWithin script bound) entry.events h.0.lines) h.1),
)

-- each line adds as many locks as it says, or fewer
more_held : (script : ScriptData) (held : List Holding) (line : Event) → length (after_line script held line) ≤ length held + adds line
more_held script held (Grant client set mode) = omega (arith, length-append held (holding client set mode ∷ []))
more_held script held (Wait client set mode) = omega arith
more_held script held (Try client set mode true) = omega (arith, length-append held (holding client set mode ∷ []))
more_held script held (Try client set mode false) = omega arith
more_held script held (Unlock client set mode) = omega (arith, length-without held (holding client set mode))
more_held script held (NotHeld client set mode) = omega arith
more_held script held (Change client set gives_up mode) =
    let left = without_one held (holding client set gives_up) in
    omega (arith, length-without held (holding client set gives_up), length-append left (holding client set mode ∷ []))
more_held script held (DropAll client other set count) = omega (arith, length-kept script other set held)
more_held script held (Busy client other set) = omega arith
more_held script held (Withdraw client other set got) = omega arith
more_held script held (Withdrawn client set mode) = omega arith
more_held script held (Void client set mode) = omega arith
more_held script held (Withheld client set mode) = omega arith
more_held script held (Copy set to client mode) = omega arith
more_held script held (Freeze set to number modes) = omega arith
more_held script held (Token set to epoch) = omega arith

all_held : (script : ScriptData) (lines : List Event) (held : List Holding) → length (fold (after_line script) held lines) ≤ length held + added_by lines
all_held script [] held = omega arith
all_held script (line ∷ rest) held =
    omega (arith, all_held script rest (after_line script held line), more_held script held line, sum_by-cons adds line rest)

pub fits_in_runs : (script : ScriptData) (entries : List Logged) (cut : Option ℕ) → IsScript script → IsRun script entries
    → length entries < 2 ^ 64 → FitsCut script cut → FitsRun script entries cut
fits_in_runs script entries cut is_script is_run few cut_node = record {
  version = is_script.version;
  some_node = is_script.some_node;
  few_nodes = few_nodes script is_script;
  moves =
      let bound = length entries in
      all_weaker (λ (entry : Logged). IsEntryWithin script bound entry × AllByRecursion (IsLineOf script) entry.events) (FitsEntry script)
      (λ entry both. entry_fits script bound entry few both) entries
      (all_both (IsEntryWithin script bound) (λ (entry : Logged). AllByRecursion (IsLineOf script) entry.events) entries
      (recursion_from_All (IsEntryWithin script bound) entries (lines_in_runs script entries (whole script is_script) is_run))
      (own_lines script entries is_script is_run));
  few_moves = few;
  few_locks = omega (
    arith,
    all_held script (lines_of entries) [],
    few_added script entries (whole script is_script) is_run,
    few,
  );
  cut_node = cut_node;
}

-- A line of a run is short: it has fewer than 200 bytes.

-- the bytes of the words, and one more for each
abbrev size : List (List ℕ) → ℕ
size [] = 0
size (word ∷ words) = suc (length word) + size words

size_later : (words : List (List ℕ)) → length (flat_map after_space words) ≡ size words
size_later [] = refl
size_later (word ∷ words) = omega (arith, length-append word (flat_map after_space words), size_later words)

size_spaced : (words : List (List ℕ)) → length (spaced words) ≤ size words
size_spaced [] = omega arith
size_spaced (word ∷ words) = omega (arith, length-append word (flat_map after_space words), size_later words)

abbrev IsShort : List ℕ → Type 0
IsShort word = length word ≤ 32

abbrev AreShort : List (List ℕ) → Type 0
AreShort words = AllByRecursion IsShort words

size_of_short : (words : List (List ℕ)) → AreShort words → size words ≤ 33 * length words
size_of_short [] all = omega arith
size_of_short (word ∷ words) all = omega (arith, all.0, size_of_short words all.1)

by_words : (words : List (List ℕ)) → AreShort words → length words ≤ 6 → length (spaced words) < 200
by_words words all few = omega (arith, size_spaced words, size_of_short words all, few)

short_name : (word : List ℕ) → is_name word ≡ true → IsShort word
short_name word named = omega (arith, leb-true (length word) MAX_NAME (and_parts _ _ (and_parts _ _ (and_parts _ _ named).0).0).0)

short_set : (script : ScriptData) (set : ℕ) → IsScript script → HasSet script set → IsShort (set_name script set)
short_set script set is_script has_set = short_name (set_name script set) (is_script.sets_named set has_set)

short_client : (script : ScriptData) (client : ℕ) → IsScript script → HasClient script client → IsShort (client_name script client)
short_client script client is_script has_client = short_name (client_name script client) (is_script.clients_named client has_client)

number_length : (n : ℕ) → IsNumber n → length (decimal n) ≤ 20
number_length n small = length-decimal-le 20 n (omega arith) (omega (arith, small)) small

short_number : (n : ℕ) → IsNumber n → IsShort (decimal n)
short_number n small = omega (arith, number_length n small)

node_number : (script : ScriptData) (node : ℕ) → IsScript script → HasNode script node → IsNumber node
node_number script node is_script below = omega (arith, below, few_nodes script is_script)

node_length : (script : ScriptData) (node : ℕ) → IsScript script → HasNode script node → length (decimal node) ≤ 10
node_length script node is_script below =
    let small : node < 2 ^ 32 = omega (arith, below, few_nodes script is_script) in
    length-decimal-le 10 node (omega arith) (omega (arith, small)) (omega (arith, small))

short_node : (script : ScriptData) (node : ℕ) → IsScript script → HasNode script node → IsShort (decimal node)
short_node script node is_script below = short_number node (node_number script node is_script below)

short_mode : (mode : Mode) → IsShort (word_of mode)
short_mode mode = omega (arith, word_length mode)

short_bool : (got : Bool) → IsShort (word_of_bool got)
short_bool true = omega arith
short_bool false = omega arith

size_modes : (modes : List Mode) → size (map word_of modes) ≤ 21 * length modes
size_modes [] = omega arith
size_modes (mode ∷ modes) = omega (arith, word_length mode, size_modes modes)

size_words_of_modes : (modes : Modes) → size (words_of_modes modes) ≤ 126
size_words_of_modes modes = elim (has_none modes) as (λ none. size (cond none (codes "none" ∷ []) (map word_of (filter (λ mode. has mode modes) modes_in_order))) ≤ 126) [
  | true ↦ omega arith
  | false ↦ omega (
    arith,
    size_modes (filter (λ mode. has mode modes) modes_in_order),
    length-filter (λ mode. has mode modes) modes_in_order,
    count_by-le-length (λ mode. has mode modes) modes_in_order,
  )
]

short_freeze : (script : ScriptData) (set to number : ℕ) (modes : Modes) → IsScript script → HasSet script set → HasNode script to → IsNumber number
    → length (spaced (event_words script (Freeze set to number modes))) < 200
short_freeze script set to number modes is_script has_set has_node small = omega (
  arith,
  size_spaced (event_words script (Freeze set to number modes)),
  short_set script set is_script has_set,
  node_length script to is_script has_node,
  number_length number small,
  size_words_of_modes modes,
)

short_step : (script : ScriptData) (step : Step) → IsScript script → FitsStep script step → AreShort (step_words script step) × (length (step_words script step) ≤ 2)
short_step script (Act client) is_script fits = ((omega arith, (short_client script client is_script fits, tt)), omega arith)
short_step script (Take from) is_script fits = ((omega arith, (short_node script from is_script fits, tt)), omega arith)

short_event : (script : ScriptData) (event : Event) → IsScript script → FitsEvent script event → length (spaced (event_words script event)) < 200
short_event script (Grant client set mode) is_script fits = by_words (event_words script (Grant client set mode))
    (omega arith, (short_client script client is_script fits.0, (short_set script set is_script fits.1, (short_mode mode, tt)))) (omega arith)
short_event script (Wait client set mode) is_script fits = by_words (event_words script (Wait client set mode))
    (omega arith, (short_client script client is_script fits.0, (short_set script set is_script fits.1, (short_mode mode, tt)))) (omega arith)
short_event script (Try client set mode got) is_script fits = by_words (event_words script (Try client set mode got))
    (omega arith, (short_client script client is_script fits.0, (short_set script set is_script fits.1, (short_mode mode, (short_bool got, tt))))) (omega arith)
short_event script (Unlock client set mode) is_script fits = by_words (event_words script (Unlock client set mode))
    (omega arith, (short_client script client is_script fits.0, (short_set script set is_script fits.1, (short_mode mode, tt)))) (omega arith)
short_event script (NotHeld client set mode) is_script fits = by_words (event_words script (NotHeld client set mode))
    (omega arith, (short_client script client is_script fits.0, (short_set script set is_script fits.1, (short_mode mode, tt)))) (omega arith)
short_event script (Change client set gives_up mode) is_script fits = by_words (event_words script (Change client set gives_up mode))
    (omega arith, (short_client script client is_script fits.0, (short_set script set is_script fits.1, (short_mode gives_up, (short_mode mode, tt))))) (omega arith)
short_event script (DropAll client other set count) is_script fits = by_words (event_words script (DropAll client other set count))
    (omega arith, (short_client script client is_script fits.0, (short_client script other is_script fits.1, (short_set script set is_script fits.2, (short_number count fits.3, tt))))) (omega arith)
short_event script (Busy client other set) is_script fits = by_words (event_words script (Busy client other set))
    (omega arith, (short_client script client is_script fits.0, (short_client script other is_script fits.1, (short_set script set is_script fits.2, tt)))) (omega arith)
short_event script (Withdraw client other set got) is_script fits = by_words (event_words script (Withdraw client other set got))
    (omega arith, (short_client script client is_script fits.0, (short_client script other is_script fits.1, (short_set script set is_script fits.2, (short_bool got, tt))))) (omega arith)
short_event script (Withdrawn client set mode) is_script fits = by_words (event_words script (Withdrawn client set mode))
    (omega arith, (short_client script client is_script fits.0, (short_set script set is_script fits.1, (short_mode mode, tt)))) (omega arith)
short_event script (Void client set mode) is_script fits = by_words (event_words script (Void client set mode))
    (omega arith, (short_client script client is_script fits.0, (short_set script set is_script fits.1, (short_mode mode, tt)))) (omega arith)
short_event script (Withheld client set mode) is_script fits = by_words (event_words script (Withheld client set mode))
    (omega arith, (short_client script client is_script fits.0, (short_set script set is_script fits.1, (short_mode mode, tt)))) (omega arith)
short_event script (Copy set to client mode) is_script fits = by_words (event_words script (Copy set to client mode))
    (omega arith, (short_set script set is_script fits.0, (short_node script to is_script fits.1, (short_client script client is_script fits.2, (short_mode mode, tt))))) (omega arith)
short_event script (Freeze set to number modes) is_script fits = short_freeze script set to number modes is_script fits.0 fits.1 fits.2
short_event script (Token set to epoch) is_script fits = by_words (event_words script (Token set to epoch))
    (omega arith, (short_set script set is_script fits.0, (short_node script to is_script fits.1, (short_number epoch fits.2, tt)))) (omega arith)

pub short_line : (script : ScriptData) (x : Line) → IsScript script → FitsLine script x → length (written script x) < 200
short_line script Version2 is_script fits = by_words (line_words script Version2) (omega arith, (omega arith, tt)) (omega arith)
short_line script Version3 is_script fits = by_words (line_words script Version3) (omega arith, (omega arith, tt)) (omega arith)
short_line script (MoveLine clock node step) is_script fits =
    let rest = short_step script step is_script fits.2 in
    by_words (line_words script (MoveLine clock node step)) (omega arith, (short_number clock fits.0, (short_node script node is_script fits.1, rest.0))) (omega (arith, rest.1))
short_line script (EventLine event) is_script fits = short_event script event is_script fits
short_line script (Held client set mode count) is_script fits = by_words (line_words script (Held client set mode count))
    (omega arith, (short_client script client is_script fits.0, (short_set script set is_script fits.1, (short_mode mode, (short_number count fits.2, tt))))) (omega arith)
short_line script (Waiting client set mode) is_script fits = by_words (line_words script (Waiting client set mode))
    (omega arith, (short_client script client is_script fits.0, (short_set script set is_script fits.1, (short_mode mode, tt)))) (omega arith)
short_line script (Owner set node epoch) is_script fits = by_words (line_words script (Owner set node epoch))
    (omega arith, (short_set script set is_script fits.0, (short_node script node is_script fits.1, (short_number epoch fits.2, tt)))) (omega arith)
short_line script (End count) is_script fits = by_words (line_words script (End count)) (omega arith, (short_number count fits, tt)) (omega arith)
short_line script (Cut node) is_script fits = by_words (line_words script (Cut node)) (omega arith, (short_node script node is_script fits, tt)) (omega arith)
short_line script Bad is_script fits = absurd fits
