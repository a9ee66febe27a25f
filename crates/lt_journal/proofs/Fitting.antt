-- What a script must be like, and the moves of a run, so that their lines can be written and read back.
use Rattle.std.proofs.Common.{◌≡◌, ◌⊎◌, inl, inr, subst, ◌<◌, ◌^◌, ◌==◌, ◌||◌, not, true, List, ℕ, Bool, Option, Some, length, if◌then◌else◌, flat_map, zero, suc, cond, false, [], ◌∷◌, ◌++◌, fold, None, arith, ◌+◌, take, get_or, refl, sym, ap, ◌∙◌, append_assoc}
use Rattle.std.specs.List.{AllByRecursion, list_all}
use Rattle.std.proofs.lemmas.List.Sums.{count_by-le-length}
use Rattle.std.proofs.lemmas.List.{take_more, map-append}
use Rattle.std.proofs.lemmas.List.Concat.{flat_map-append}
use Rattle.lt_modes.specs.declared.moves.Move.{Move}
use Rattle.lt_modes.specs.Script.{ScriptData, set_name, client_name}
use Rattle.lt_modes.specs.declared.mode.Mode.{Mode}
use Rattle.lt_modes.specs.declared.event.Event.{Event}
use Rattle.lt_modes.specs.declared.event.Event.TheVariants.{Grant, Wait, Try, Unlock, NotHeld, Change, DropAll, Busy, Withdraw, Withdrawn, Void, Withheld, Copy, Freeze, Token}
use Rattle.lt_modes.specs.declared.parts.Link.{Link}
use Rattle.lt_modes.specs.Modes.{modes_in_order}
use Rattle.lt_spec.specs.World.{Logged}
use Rattle.lt_spec.specs.Holdings.{holdings, lines_of, Holding, holding, same_holding, times_held, wanted, wanted_after, owner_of, owner_after}
use Rattle.lt_spec.specs.Script.{set_number, client_number}
use Rattle.lt_merge.specs.Merging.{made_at, events_at}
use Rattle.lt_journal.specs.LineFits.{IsNumber, HasNode, FitsStep, FitsEvent, FitsCut, HasSet, HasClient, FitsLine}
use Rattle.lt_journal.specs.declared.line.Line.{Line}
use Rattle.lt_journal.specs.declared.line.Line.TheVariants.{Held, Move as MoveLine}
use Rattle.lt_journal.specs.RunLines.{shown_event, line_of_event, event_lines, first_lines, entry_lines, moves_lines, lines_below, held_line, held_in_mode, held_in_set, held_by, held_lines, waiting_line, waiting_lines, owner_line, owner_lines, closing_lines, run_lines, line_text, lines_text}

-- no space, line feed or carriage return
abbrev pub is_plain_byte : ℕ → Bool
is_plain_byte byte = not (byte == 32 || byte == 10 || byte == 13)

-- the word can stand in a line
abbrev pub is_plain : List ℕ → Bool
is_plain word = list_all is_plain_byte word

-- each name can stand in a line, and is that of this one set or client
pub record IsNamed (script : ScriptData) : Type 0 where
  pub plain_sets : (set : ℕ) → set < length script.sets → is_plain (set_name script set) ≡ true
  pub sets_apart : (set : ℕ) → set < length script.sets → set_number script (set_name script set) ≡ Some set
  pub plain_clients : (client : ℕ) → client < length script.clients → is_plain (client_name script client) ≡ true
  pub clients_apart : (client : ℕ) → client < length script.clients → client_number script (client_name script client) ≡ Some client

-- nodes have numbers of a line
abbrev pub FewNodes : ScriptData → Type 0
FewNodes script = script.nodes < 2 ^ 32

-- what the move names is of the script, and its clock is a number of a line
abbrev pub FitsMove : ScriptData → Move → Type 0
FitsMove script made = IsNumber made.stamp.clock × HasNode script made.stamp.node × FitsStep script made.step

-- the move fits, and so do its events
abbrev pub FitsEntry : ScriptData → Logged → Type 0
FitsEntry script entry = FitsMove script entry.made × AllByRecursion (FitsEvent script) entry.events

-- all that the run's text names is of the script, and its numbers are those of a line
pub record FitsRun (script : ScriptData) (entries : List Logged) (cut : Option ℕ) : Type 0 where
  pub version : (script.version ≡ 1) ⊎ ((script.version ≡ 2) ⊎ (script.version ≡ 3))
  pub some_node : 0 < script.nodes
  pub few_nodes : FewNodes script
  pub moves : AllByRecursion (FitsEntry script) entries
  pub few_moves : IsNumber (length entries)
  pub few_locks : IsNumber (length (holdings script (lines_of entries)))
  pub cut_node : FitsCut script cut

-- Where the moves of a run fit, so do all its lines.

append_fits : {X : Type 0} (P : X → Type 0) (xs ys : List X) → AllByRecursion P xs → AllByRecursion P ys → AllByRecursion P (xs ++ ys)
append_fits P [] ys f g = g
append_fits P (x ∷ xs) ys f g = (f.0, append_fits P xs ys f.1 g)

-- what a client waits for is of the script
abbrev FitsWaiting : ScriptData → Option Holding → Type 0
FitsWaiting script None = Unit {0}
FitsWaiting script (Some lock) = HasClient script lock.client × HasSet script lock.set

-- a set's owner is a node of the script, and its epoch is a number of a line
abbrev FitsOwner : ScriptData → Link → Type 0
FitsOwner script owner = HasNode script owner.node × IsNumber owner.epoch

either : {X : Type 0} (P : X → Type 0) (test : Bool) (x y : X) → P x → P y → P (if test then x else y)
either P true x y f g = f
either P false x y f g = g

wanted_fits : (script : ScriptData) (client : ℕ) (lock : Option Holding) (events : List Event) → FitsWaiting script lock → AllByRecursion (FitsEvent script) events
    → FitsWaiting script (fold (wanted_after client) lock events)
wanted_fits script client lock [] fits now = fits
wanted_fits script client lock (event ∷ events) fits now =
    wanted_fits script client (wanted_after client lock event) events (by_event event now.0) now.1
  where
    by_event : (event : Event) → FitsEvent script event → FitsWaiting script (wanted_after client lock event)
    by_event (Grant c s mode) h = either (FitsWaiting script) (c == client) None lock tt fits
    by_event (Wait c s mode) h = either (FitsWaiting script) (c == client) (Some (holding c s mode)) lock h fits
    by_event (Change c s gives_up mode) h = either (FitsWaiting script) (c == client) None lock tt fits
    by_event (Withdrawn c s mode) h = either (FitsWaiting script) (c == client) None lock tt fits
    by_event other h = fits

owner_fits : (script : ScriptData) (lock_set : ℕ) (owner : Link) (events : List Event) → FitsOwner script owner → AllByRecursion (FitsEvent script) events
    → FitsOwner script (fold (owner_after lock_set) owner events)
owner_fits script lock_set owner [] fits now = fits
owner_fits script lock_set owner (event ∷ events) fits now =
    owner_fits script lock_set (owner_after lock_set owner event) events (by_event event now.0) now.1
  where
    by_event : (event : Event) → FitsEvent script event → FitsOwner script (owner_after lock_set owner event)
    by_event (Token s to epoch) h = either (FitsOwner script) (s == lock_set) (record { node = to; epoch = epoch }) owner (h.1, h.2) fits
    by_event other h = fits

all_events_fit : (script : ScriptData) (entries : List Logged) → AllByRecursion (FitsEntry script) entries → AllByRecursion (FitsEvent script) (lines_of entries)
all_events_fit script [] fits = tt
all_events_fit script (entry ∷ entries) fits =
    append_fits (FitsEvent script) entry.events (lines_of entries) fits.0.1 (all_events_fit script entries fits.1)

-- an event fits as it is shown
shown_fits : (script : ScriptData) (v : ℕ) (event : Event) → FitsEvent script event → FitsEvent script (shown_event v event)
shown_fits script v (Grant client set mode) fits = fits
shown_fits script v (Wait client set mode) fits = fits
shown_fits script v (Try client set mode got) fits = fits
shown_fits script v (Unlock client set mode) fits = fits
shown_fits script v (NotHeld client set mode) fits = fits
shown_fits script v (Change client set gives_up mode) fits = fits
shown_fits script v (DropAll client other set count) fits = fits
shown_fits script v (Busy client other set) fits = fits
shown_fits script v (Withdraw client other set got) fits = fits
shown_fits script v (Withdrawn client set mode) fits = fits
shown_fits script v (Void client set mode) fits = fits
shown_fits script v (Withheld client set mode) fits = fits
shown_fits script v (Copy set to client mode) fits = fits
shown_fits script v (Freeze set to number modes) fits = fits
shown_fits script v (Token set to epoch) fits = fits

event_lines_fit : (script : ScriptData) (v : ℕ) (events : List Event) → AllByRecursion (FitsEvent script) events → AllByRecursion (FitsLine script) (event_lines v events)
event_lines_fit script v [] fits = tt
event_lines_fit script v (event ∷ events) fits = (shown_fits script v event fits.0, event_lines_fit script v events fits.1)

entries_fit : (script : ScriptData) (v : ℕ) (entries : List Logged) → AllByRecursion (FitsEntry script) entries → AllByRecursion (FitsLine script) (moves_lines v entries)
entries_fit script v [] fits = tt
entries_fit script v (entry ∷ entries) fits =
    append_fits (FitsLine script) (entry_lines v entry) (flat_map (entry_lines v) entries) (fits.0.0, event_lines_fit script v entry.events fits.0.1) (entries_fit script v entries fits.1)

-- the line `version 3` stands in a journal of version 3 alone
first_fits : (script : ScriptData) → (script.version ≡ 1) ⊎ ((script.version ≡ 2) ⊎ (script.version ≡ 3)) → AllByRecursion (FitsLine script) (first_lines script.version)
first_fits script known = elim known [
  | inl one ↦ subst (λ (v : ℕ). AllByRecursion (FitsLine script) (first_lines v)) (sym one) tt
  | inr later ↦ elim later [
    | inl two ↦ subst (λ (v : ℕ). AllByRecursion (FitsLine script) (first_lines v)) (sym two) (tt, tt)
    | inr three ↦ subst (λ (v : ℕ). AllByRecursion (FitsLine script) (first_lines v)) (sym three) (three, tt)
  ]
]

below_fits : (script : ScriptData) (n : ℕ) (f : ℕ → List Line) → ((k : ℕ) → k < n → AllByRecursion (FitsLine script) (f k)) → AllByRecursion (FitsLine script) (lines_below n f)
below_fits script zero f fits = tt
below_fits script (suc n) f fits =
    append_fits (FitsLine script) (lines_below n f) (f n) (below_fits script n f (λ k below. fits k (omega arith))) (fits n (omega arith))

held_line_fits : (script : ScriptData) (lock : Holding) (count : ℕ) → HasClient script lock.client → HasSet script lock.set → IsNumber count
    → AllByRecursion (FitsLine script) (held_line lock count)
held_line_fits script lock count has_client has_set number =
    elim (count == 0) as (λ none. AllByRecursion (FitsLine script) (cond none [] (Held lock.client lock.set lock.mode count ∷ []))) [
      | true ↦ tt
      | false ↦ ((has_client, has_set, number), tt)
    ]

held_modes_fit : (script : ScriptData) (held : List Holding) (client lock_set : ℕ) (modes : List Mode) → IsNumber (length held) → HasClient script client → HasSet script lock_set
    → AllByRecursion (FitsLine script) (flat_map (held_in_mode held client lock_set) modes)
held_modes_fit script held client lock_set [] few has_client has_set = tt
held_modes_fit script held client lock_set (mode ∷ modes) few has_client has_set =
    let lock = holding client lock_set mode in
    append_fits (FitsLine script) (held_in_mode held client lock_set mode) (flat_map (held_in_mode held client lock_set) modes)
    (held_line_fits script lock (times_held held lock) has_client has_set (omega (arith, count_by-le-length (same_holding lock) held)))
    (held_modes_fit script held client lock_set modes few has_client has_set)

held_fits : (script : ScriptData) (held : List Holding) → IsNumber (length held) → AllByRecursion (FitsLine script) (held_lines script held)
held_fits script held few =
    below_fits script (length script.clients) (held_by script held)
    (λ client has_client. below_fits script (length script.sets) (held_in_set held client)
    (λ lock_set has_set. held_modes_fit script held client lock_set modes_in_order few has_client has_set))

waiting_line_fits : (script : ScriptData) (lock : Option Holding) → FitsWaiting script lock → AllByRecursion (FitsLine script) (waiting_line lock)
waiting_line_fits script None fits = tt
waiting_line_fits script (Some lock) fits = (fits, tt)

waiting_fits : (script : ScriptData) (events : List Event) → AllByRecursion (FitsEvent script) events
    → AllByRecursion (FitsLine script) (waiting_lines script (λ client. wanted client events))
waiting_fits script events fits =
    below_fits script (length script.clients) (λ client. waiting_line (wanted client events))
    (λ client has_client. waiting_line_fits script (wanted client events) (wanted_fits script client None events tt fits))

owners_fit : (script : ScriptData) (events : List Event) → 0 < script.nodes → AllByRecursion (FitsEvent script) events
    → AllByRecursion (FitsLine script) (owner_lines script (λ lock_set. owner_of lock_set events))
owners_fit script events some fits =
    below_fits script (length script.sets) (λ lock_set. owner_line lock_set (owner_of lock_set events))
    (λ lock_set has_set.
    let owner = owner_fits script lock_set (record { node = 0; epoch = 0 }) events (some, omega arith) fits in
    ((has_set, owner.0, owner.1), tt))

closing_fits : (script : ScriptData) (entries : List Logged) (cut : Option ℕ) → FitsRun script entries cut → AllByRecursion (FitsLine script) (closing_lines script entries cut)
closing_fits script entries None run =
    let events = lines_of entries in
    let fits = all_events_fit script entries run.moves in
    append_fits (FitsLine script) _ _
    (append_fits (FitsLine script) _ _
    (append_fits (FitsLine script) _ _ (held_fits script (holdings script events) run.few_locks) (waiting_fits script events fits))
    (owners_fit script events run.some_node fits))
    (run.few_moves, tt)
closing_fits script entries (Some node) run = (run.cut_node, tt)

pub lines_fit : (script : ScriptData) (entries : List Logged) (cut : Option ℕ) → FitsRun script entries cut → AllByRecursion (FitsLine script) (run_lines script entries cut)
lines_fit script entries cut run =
    append_fits (FitsLine script) (first_lines script.version) (moves_lines script.version entries ++ closing_lines script entries cut) (first_fits script run.version)
    (append_fits (FitsLine script) (moves_lines script.version entries) (closing_lines script entries cut) (entries_fit script script.version entries run.moves) (closing_fits script entries cut run))

-- What one turn of a loop adds to a text, and to the moves and events done so far.

append_nil : {X : Type 0} (xs : List X) → xs ++ [] ≡ xs
append_nil [] = refl
append_nil {X} (x ∷ xs) = ap (λ (ys : List X). x ∷ ys) (append_nil xs)

-- a piece after what was there so far
pub list_more : {X : Type 0} (old before now done piece more : List X) → now ≡ before ++ piece → before ≡ old ++ done → done ++ piece ≡ more → now ≡ old ++ more
list_more {X} old before now done piece more e f g =
    e ∙ (ap (λ (t : List X). t ++ piece) f ∙ (append_assoc old done piece ∙ ap (λ (t : List X). old ++ t) g))

-- the lines of these numbers, and of the next
pub lines_below-next : (n : ℕ) (lines : ℕ → List Line) → lines_below n lines ++ lines n ≡ lines_below (n + 1) lines
lines_below-next n lines =
    let one : suc n ≡ n + 1 = omega arith in
    ap (λ (k : ℕ). lines_below k lines) one

pub flat_map-more : {X A : Type 0} (f : X → List A) (xs : List X) (i : ℕ) (d : X) → i < length xs → flat_map f (take i xs) ++ f (get_or xs i d) ≡ flat_map f (take (i + 1) xs)
flat_map-more {X} {A} f xs i d h =
    sym (ap (λ (ys : List X). flat_map f ys) (take_more xs i d h)
    ∙ (flat_map-append f (take i xs) (get_or xs i d ∷ [])
    ∙ ap (λ (ys : List A). flat_map f (take i xs) ++ ys) (append_nil (f (get_or xs i d)))))

-- the text of the events up to this one, and of this one
pub events_text-more : (script : ScriptData) (version : ℕ) (events : List Event) (i : ℕ) (event : Event) → event ≡ get_or events i event → i < length events
    → lines_text script (event_lines version (take i events)) ++ line_text script (line_of_event version event) ≡ lines_text script (event_lines version (take (i + 1) events))
events_text-more script version events i event is inside =
    let before = event_lines version (take i events) in
    sym (ap (λ (es : List Event). lines_text script (event_lines version es)) (take_more events i event inside)
    ∙ (ap (λ (e : Event). lines_text script (event_lines version (take i events ++ e ∷ []))) (sym is)
    ∙ (ap (λ (ls : List Line). lines_text script ls) (map-append (line_of_event version) (take i events) (event ∷ []))
    ∙ (flat_map-append (line_text script) before (line_of_event version event ∷ [])
    ∙ ap (λ (text : List ℕ). lines_text script before ++ text) (append_nil (line_text script (line_of_event version event)))))))

-- the moves up to this one
take_entry : (entries : List Logged) (k : ℕ) (made : Move) (events : List Event) → made_at entries k ≡ Some made → events_at entries k ≡ Some events → take (suc k) entries ≡ take k entries ++ record { made = made; events = events } ∷ []
take_entry [] k made events e f = cc
take_entry (entry ∷ later) zero made events e f =
    let same_made : entry.made ≡ made = cc in
    let same_events : entry.events ≡ events = cc in
    λ i. record { made = same_made i; events = same_events i } ∷ []
take_entry (entry ∷ later) (suc k) made events e f =
    ap (λ (es : List Logged). entry ∷ es) (take_entry later k made events e f)

take_entry_more : (entries : List Logged) (k : ℕ) (made : Move) (events : List Event) → made_at entries k ≡ Some made → events_at entries k ≡ Some events → take (k + 1) entries ≡ take k entries ++ record { made = made; events = events } ∷ []
take_entry_more entries k made events e f =
    let one : k + 1 ≡ suc k = omega arith in
    ap (λ (n : ℕ). take n entries) one ∙ take_entry entries k made events e f

-- the text of the moves up to this one, and of this one with its events
pub moves_text-more : (script : ScriptData) (entries : List Logged) (k : ℕ) (made : Move) (events : List Event) → made_at entries k ≡ Some made → events_at entries k ≡ Some events
    → lines_text script (moves_lines script.version (take k entries)) ++ (line_text script (MoveLine made.stamp.clock made.stamp.node made.step) ++ lines_text script (event_lines script.version events)) ≡ lines_text script (moves_lines script.version (take (k + 1) entries))
moves_text-more script entries k made events e f =
    let entry : Logged = record { made = made; events = events } in
    sym (ap (λ (es : List Logged). lines_text script (moves_lines script.version es)) (take_entry_more entries k made events e f)
    ∙ (ap (λ (ls : List Line). lines_text script ls) (flat_map-append (entry_lines script.version) (take k entries) (entry ∷ []))
    ∙ (flat_map-append (line_text script) (moves_lines script.version (take k entries)) (moves_lines script.version (entry ∷ []))
    ∙ ap (λ (ls : List Line). lines_text script (moves_lines script.version (take k entries)) ++ lines_text script ls) (append_nil (entry_lines script.version entry)))))
