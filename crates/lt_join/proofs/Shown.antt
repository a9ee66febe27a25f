-- A journal shows events so that the text of a run is that of the run as it is shown.
use Rattle.std.proofs.Common.{◌≡◌, ◌<◌, ◌==◌, ℕ, zero, suc, Bool, true, false, cond, List, [], ◌∷◌, ◌++◌, length, map, fold, None, refl, sym, ap, ap₂, ◌∙◌, arith}
use Rattle.std.proofs.lemmas.List.{map-append, length-map}
use Rattle.lt_modes.specs.declared.event.Event.{Event}
use Rattle.lt_modes.specs.declared.event.Event.TheVariants.{Grant, Wait, Try, Unlock, NotHeld, Change, DropAll, Busy, Withdraw, Withdrawn, Void, Withheld, Copy, Freeze, Token}
use Rattle.lt_modes.specs.FiveModes.{shown_in, five_of}
use Rattle.lt_modes.specs.Modes.{Modes}
use Rattle.lt_modes.specs.Script.{ScriptData}
use Rattle.lt_modes.specs.Telling.{is_newer}
use Rattle.lt_spec.specs.Holdings.{after_line, holdings, wanted_after, wanted, owner_after, owner_of, lines_of}
use Rattle.lt_spec.specs.World.{Logged}
use Rattle.lt_merge.specs.Merging.{first_merged, both_merged}
use Rattle.lt_journal.specs.declared.line.Line.{Line}
use Rattle.lt_journal.specs.declared.line.Line.TheVariants.{Move as MoveLine, Event as EventLine, End}
use Rattle.lt_journal.specs.RunLines.{shown_event, event_lines, moves_lines, first_lines, held_lines, waiting_lines, owner_lines, rest_lines, closing_lines, lines_text, text_of}
use Rattle.lt_law_plays.specs.Merged.{merged}
use Rattle.lt_join.specs.Parts.{shown_entry}

-- the function doesn't see which modes are frozen
abbrev IsBlind : {A : Type 0} → (Event → A) → Type 0
IsBlind f = (set to number : ℕ) (a b : Modes) → f (Freeze set to number a) ≡ f (Freeze set to number b)

blind_same : {A : Type 0} (v : ℕ) (f : Event → A) → IsBlind f → (event : Event) → f (shown_event v event) ≡ f event
blind_same v f blind (Grant client set mode) = refl
blind_same v f blind (Wait client set mode) = refl
blind_same v f blind (Try client set mode got) = refl
blind_same v f blind (Unlock client set mode) = refl
blind_same v f blind (NotHeld client set mode) = refl
blind_same v f blind (Change client set gives_up mode) = refl
blind_same v f blind (DropAll client other set count) = refl
blind_same v f blind (Busy client other set) = refl
blind_same v f blind (Withdraw client other set got) = refl
blind_same v f blind (Withdrawn client set mode) = refl
blind_same v f blind (Void client set mode) = refl
blind_same v f blind (Withheld client set mode) = refl
blind_same v f blind (Copy set to client mode) = refl
blind_same v f blind (Freeze set to number modes) = blind set to number (shown_in v modes) modes
blind_same v f blind (Token set to epoch) = refl

fold_shown : {A : Type 0} (v : ℕ) (f : A → Event → A) → ((a : A) → IsBlind (f a)) → (start : A) (events : List Event)
    → fold f start (map (shown_event v) events) ≡ fold f start events
fold_shown v f blind start [] = refl
fold_shown {A = A} v f blind start (event ∷ events) =
    ap (λ (a : A). fold f a (map (shown_event v) events)) (blind_same v (f start) (blind start) event)
    ∙ fold_shown v f blind (f start event) events

holdings_shown : (script : ScriptData) (v : ℕ) (events : List Event) → holdings script (map (shown_event v) events) ≡ holdings script events
holdings_shown script v events = fold_shown v (after_line script) (λ held set to number a b. refl) [] events

wanted_shown : (client v : ℕ) (events : List Event) → wanted client (map (shown_event v) events) ≡ wanted client events
wanted_shown client v events = fold_shown v (wanted_after client) (λ lock set to number a b. refl) None events

owner_shown : (s v : ℕ) (events : List Event) → owner_of s (map (shown_event v) events) ≡ owner_of s events
owner_shown s v events = fold_shown v (owner_after s) (λ owner set to number a b. refl) (record { node = 0; epoch = 0 }) events

-- what is shown twice is shown once
twice : (one : Bool) (modes : Modes) → cond one (five_of (cond one (five_of modes) modes)) (cond one (five_of modes) modes) ≡ cond one (five_of modes) modes
twice true modes = refl
twice false modes = refl

event_twice : (v : ℕ) (event : Event) → shown_event v (shown_event v event) ≡ shown_event v event
event_twice v (Grant client set mode) = refl
event_twice v (Wait client set mode) = refl
event_twice v (Try client set mode got) = refl
event_twice v (Unlock client set mode) = refl
event_twice v (NotHeld client set mode) = refl
event_twice v (Change client set gives_up mode) = refl
event_twice v (DropAll client other set count) = refl
event_twice v (Busy client other set) = refl
event_twice v (Withdraw client other set got) = refl
event_twice v (Withdrawn client set mode) = refl
event_twice v (Void client set mode) = refl
event_twice v (Withheld client set mode) = refl
event_twice v (Copy set to client mode) = refl
event_twice v (Freeze set to number modes) = ap (Freeze set to number) (twice (v == 1) modes)
event_twice v (Token set to epoch) = refl

events_shown : (v : ℕ) (events : List Event) → event_lines v (map (shown_event v) events) ≡ event_lines v events
events_shown v [] = refl
events_shown v (event ∷ events) =
    ap₂ (λ (e : Event) (xs : List Line). EventLine e ∷ xs) (event_twice v event) (events_shown v events)

moves_shown : (v : ℕ) (run : List Logged) → moves_lines v (map (shown_entry v) run) ≡ moves_lines v run
moves_shown v [] = refl
moves_shown v (entry ∷ run) =
    ap₂ (λ (xs ys : List Line). MoveLine entry.made.stamp.clock entry.made.stamp.node entry.made.step ∷ (xs ++ ys))
    (events_shown v entry.events) (moves_shown v run)

all_events_shown : (v : ℕ) (run : List Logged) → lines_of (map (shown_entry v) run) ≡ map (shown_event v) (lines_of run)
all_events_shown v [] = refl
all_events_shown v (entry ∷ run) =
    ap (λ (events : List Event). map (shown_event v) entry.events ++ events) (all_events_shown v run)
    ∙ sym (map-append (shown_event v) entry.events (lines_of run))

rest_shown : (script : ScriptData) (v : ℕ) (events : List Event) (count : ℕ)
    → rest_lines script (map (shown_event v) events) count ≡ rest_lines script events count
rest_shown script v events count = λ i.
    held_lines script (holdings_shown script v events i)
    ++ waiting_lines script (λ client. wanted_shown client v events i)
    ++ owner_lines script (λ set. owner_shown set v events i) ++ End count ∷ []

closing_shown : (script : ScriptData) (v : ℕ) (run : List Logged)
    → closing_lines script (map (shown_entry v) run) None ≡ closing_lines script run None
closing_shown script v run =
    ap₂ (λ (events : List Event) (count : ℕ). rest_lines script events count) (all_events_shown v run) (length-map run (shown_entry v))
    ∙ rest_shown script v (lines_of run) (length run)

-- the text of a run as it is shown is that of the run
pub text_shown : (script : ScriptData) (run : List Logged)
    → text_of script (map (shown_entry script.version) run) None ≡ text_of script run None
text_shown script run =
    ap₂ (λ (moves closing : List Line). lines_text script (first_lines script.version ++ (moves ++ closing)))
    (moves_shown script.version run) (closing_shown script script.version run)

-- Moves are merged as they are shown.

first_shown : (v : ℕ) (entry : Logged) (rest other_rest : List Logged → List Logged)
    → ((moves : List Logged) → other_rest (map (shown_entry v) moves) ≡ map (shown_entry v) (rest moves))
    → (others : List Logged)
    → first_merged (shown_entry v entry) other_rest (map (shown_entry v) others) ≡ map (shown_entry v) (first_merged entry rest others)
first_shown v entry rest other_rest same [] = ap (λ (moves : List Logged). shown_entry v entry ∷ moves) (same [])
first_shown v entry rest other_rest same (other ∷ others) =
    by_test (is_newer other.made.stamp entry.made.stamp) (first_shown v entry rest other_rest same others)
  where
    by_test : (newer : Bool)
        → first_merged (shown_entry v entry) other_rest (map (shown_entry v) others) ≡ map (shown_entry v) (first_merged entry rest others)
        → cond newer (shown_entry v entry ∷ other_rest (shown_entry v other ∷ map (shown_entry v) others))
        (shown_entry v other ∷ first_merged (shown_entry v entry) other_rest (map (shown_entry v) others))
        ≡ map (shown_entry v) (cond newer (entry ∷ rest (other ∷ others)) (other ∷ first_merged entry rest others))
    by_test true later = ap (λ (moves : List Logged). shown_entry v entry ∷ moves) (same (other ∷ others))
    by_test false later = ap (λ (moves : List Logged). shown_entry v other ∷ moves) later

both_shown : (v : ℕ) (first second : List Logged)
    → both_merged (map (shown_entry v) first) (map (shown_entry v) second) ≡ map (shown_entry v) (both_merged first second)
both_shown v [] second = refl
both_shown v (entry ∷ rest) second =
    first_shown v entry (both_merged rest) (both_merged (map (shown_entry v) rest)) (λ moves. both_shown v rest moves) second

-- logs that are those of the first n nodes as they are shown are merged to their run as it is shown
pub merged_shown : (v n : ℕ) (log shown : ℕ → List Logged) → ((x : ℕ) → x < n → shown x ≡ map (shown_entry v) (log x))
    → merged n shown ≡ map (shown_entry v) (merged n log)
merged_shown v zero log shown same = refl
merged_shown v (suc n) log shown same =
    ap₂ both_merged (same n (omega arith)) (merged_shown v n log shown (λ x below. same x (omega (arith, below))))
    ∙ both_shown v (log n) (merged n log)
