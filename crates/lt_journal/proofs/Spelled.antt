-- What is spelled of a line is read as this line.
use Rattle.std.proofs.Common.{◌≡◌, ℕ, Bool, true, false, List, [], ◌∷◌, codes, Some, refl, ◌∙◌, arith, rules, decimal, lt-ltb}
use Rattle.lt_modes.specs.declared.mode.Mode.{Mode}
use Rattle.lt_modes.specs.declared.moves.Step.{Step}
use Rattle.lt_modes.specs.declared.moves.Step.TheVariants.{Act, Take}
use Rattle.lt_modes.specs.declared.event.Event.{Event}
use Rattle.lt_modes.specs.declared.event.Event.TheVariants.{Grant, Wait, Try, Unlock, NotHeld, Change, DropAll, Busy, Withdraw, Withdrawn, Void, Withheld, Copy, Freeze, Token}
use Rattle.lt_modes.specs.Modes.{Modes, word_of, has}
use Rattle.lt_modes.specs.Script.{ScriptData, set_name, client_name}
use Rattle.lt_modes.proofs.ModeAlgebra.{mode_of_word}
use Rattle.lt_journal.specs.RunLines.{event_words, words_of_modes, word_of_bool, line_words}
use Rattle.lt_text.proofs.NumberLemmas.{exact_number_decimal}
use Rattle.lt_journal.specs.declared.line.Line.{Line}
use Rattle.lt_journal.specs.declared.line.Line.TheVariants.{Version2, Version3, Move as MoveLine, Event as EventLine, Held, Waiting, Owner, End, Cut, Bad}
use Rattle.lt_journal.specs.Grammar.{line_of, node_of, lock_of, modes_of, bool_of, line_of_freeze}
use Rattle.lt_journal.specs.LineFits.{IsNumber, HasSet, HasClient, HasNode, FitsStep, FitsEvent, FitsLine}
use Rattle.lt_journal.proofs.Fitting.{IsNamed, FewNodes}

bool_of_word : (got : Bool) → bool_of (word_of_bool got) ≡ Some got
bool_of_word true = refl
bool_of_word false = refl

lock_of_words : (script : ScriptData) (client set : ℕ) (mode : Mode) → IsNamed script → HasClient script client → HasSet script set
    → lock_of script (client_name script client) (set_name script set) (word_of mode) ≡ Some (record { client = client; set = set; mode = mode })
lock_of_words script client set mode named has_client has_set =
    rw (named.clients_apart client has_client, named.sets_apart set has_set, mode_of_word mode)

node_of_decimal : (script : ScriptData) (node : ℕ) → FewNodes script → HasNode script node → node_of script (decimal node) ≡ Some node
node_of_decimal script node few below = rw (exact_number_decimal node (omega arith), lt-ltb node script.nodes below)

step_of_words : (script : ScriptData) (clock node : ℕ) (step : Step) → IsNamed script → FewNodes script → IsNumber clock → HasNode script node → FitsStep script step
    → line_of script (line_words script (MoveLine clock node step)) ≡ MoveLine clock node step
step_of_words script clock node (Act client) named few number has fits =
    rw (exact_number_decimal clock number, node_of_decimal script node few has, named.clients_apart client fits)
step_of_words script clock node (Take from) named few number has fits =
    rw (exact_number_decimal clock number, node_of_decimal script node few has, node_of_decimal script from few fits)

abbrev pub has_words : List (List ℕ) → Bool
has_words [] = false
has_words (word ∷ later) = true

-- the set of these modes has words, and is read from them
abbrev IsReadBack : Bool → Bool → Bool → Bool → Bool → Bool → Type 0
IsReadBack a b c d e f =
    let modes : Modes = record { intention_read = a; read = b; upgrade = c; intention_write = d; read_intention_write = e; write = f } in
    (has_words (words_of_modes modes) ≡ true) × (modes_of (words_of_modes modes) ≡ Some modes)

abbrev pub Both : (Bool → Type 0) → Type 0
Both P = P true × P false

pub both : (P : Bool → Type 0) → Both P → (b : Bool) → P b
both P h true = h.0
both P h false = h.1

all_read_back : Both (λ a. Both (λ b. Both (λ c. Both (λ d. Both (λ e. Both (IsReadBack a b c d e))))))
all_read_back = search rules

read_back : (modes : Modes) → (has_words (words_of_modes modes) ≡ true) × (modes_of (words_of_modes modes) ≡ Some modes)
read_back modes =
    let a = modes.intention_read in
    let b = modes.read in
    let c = modes.upgrade in
    let d = modes.intention_write in
    let e = modes.read_intention_write in
    let by_first = both (λ x. Both (λ y. Both (λ z. Both (λ w. Both (λ v. Both (IsReadBack x y z w v)))))) all_read_back a in
    let by_second = both (λ y. Both (λ z. Both (λ w. Both (λ v. Both (IsReadBack a y z w v))))) by_first b in
    let by_third = both (λ z. Both (λ w. Both (λ v. Both (IsReadBack a b z w v)))) by_second c in
    let by_fourth = both (λ w. Both (λ v. Both (IsReadBack a b c w v))) by_third d in
    let by_fifth = both (λ v. Both (IsReadBack a b c d v)) by_fourth e in
    both (IsReadBack a b c d e) by_fifth modes.write

freeze_read : (script : ScriptData) (a b c : List ℕ) (words : List (List ℕ)) → has_words words ≡ true
    → line_of script (codes "freeze" ∷ a ∷ b ∷ c ∷ words) ≡ line_of_freeze script a b c words
freeze_read script a b c [] some = absurd (cc)
freeze_read script a b c (word ∷ []) some = refl
freeze_read script a b c (word ∷ next ∷ later) some = refl

event_read : (script : ScriptData) (event : Event) → IsNamed script → FewNodes script → FitsEvent script event → line_of script (event_words script event) ≡ EventLine event
event_read script (Grant client set mode) named few fits = rw (lock_of_words script client set mode named fits.0 fits.1)
event_read script (Wait client set mode) named few fits = rw (lock_of_words script client set mode named fits.0 fits.1)
event_read script (Try client set mode got) named few fits = rw (lock_of_words script client set mode named fits.0 fits.1, bool_of_word got)
event_read script (Unlock client set mode) named few fits = rw (lock_of_words script client set mode named fits.0 fits.1)
event_read script (NotHeld client set mode) named few fits = rw (lock_of_words script client set mode named fits.0 fits.1)
event_read script (Change client set gives_up mode) named few fits =
    rw (lock_of_words script client set gives_up named fits.0 fits.1, mode_of_word mode)
event_read script (DropAll client other set count) named few fits =
    rw (named.clients_apart client fits.0, named.clients_apart other fits.1, named.sets_apart set fits.2, exact_number_decimal count fits.3)
event_read script (Busy client other set) named few fits =
    rw (named.clients_apart client fits.0, named.clients_apart other fits.1, named.sets_apart set fits.2)
event_read script (Withdraw client other set got) named few fits =
    rw (fits.3, named.clients_apart client fits.0, named.clients_apart other fits.1, named.sets_apart set fits.2, bool_of_word got)
event_read script (Withdrawn client set mode) named few fits = rw (fits.2, lock_of_words script client set mode named fits.0 fits.1)
event_read script (Void client set mode) named few fits = rw (fits.2, lock_of_words script client set mode named fits.0 fits.1)
event_read script (Withheld client set mode) named few fits = rw (fits.2, lock_of_words script client set mode named fits.0 fits.1)
event_read script (Copy set to client mode) named few fits =
    rw (named.sets_apart set fits.0, node_of_decimal script to few fits.1, named.clients_apart client fits.2, mode_of_word mode)
event_read script (Freeze set to number modes) named few fits =
    let back = read_back modes in
    freeze_read script (set_name script set) (decimal to) (decimal number) (words_of_modes modes) back.0
    ∙ rw (named.sets_apart set fits.0, node_of_decimal script to few fits.1, exact_number_decimal number fits.2, back.1)
event_read script (Token set to epoch) named few fits =
    rw (named.sets_apart set fits.0, node_of_decimal script to few fits.1, exact_number_decimal epoch fits.2)

pub line_read : (script : ScriptData) (x : Line) → IsNamed script → FewNodes script → FitsLine script x → line_of script (line_words script x) ≡ x
line_read script Version2 named few fits = refl
line_read script Version3 named few fits = rw fits
line_read script (MoveLine clock node step) named few fits = step_of_words script clock node step named few fits.0 fits.1 fits.2
line_read script (EventLine event) named few fits = event_read script event named few fits
line_read script (Held client set mode count) named few fits =
    rw (lock_of_words script client set mode named fits.0 fits.1, exact_number_decimal count fits.2)
line_read script (Waiting client set mode) named few fits = rw (lock_of_words script client set mode named fits.0 fits.1)
line_read script (Owner set node epoch) named few fits =
    rw (named.sets_apart set fits.0, node_of_decimal script node few fits.1, exact_number_decimal epoch fits.2)
line_read script (End count) named few fits = rw (exact_number_decimal count fits)
line_read script (Cut node) named few fits = rw (node_of_decimal script node few fits)
line_read script Bad named few fits = absurd fits
