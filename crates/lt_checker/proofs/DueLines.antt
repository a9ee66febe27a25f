-- What is due after the last move of a run, and what a line makes of it.
use Rattle.std.proofs.Common.{◌≡◌, ◌∙◌, ℕ, zero, suc, ◌+◌, ◌==◌, Bool, true, false, cond, List, [], ◌∷◌, ◌++◌, Option, Some, None, unwrap_or, slice_get, bytes_eq, length, drop, refl, sym, ap, ap₂, subst, arith, eqb-true}
use Rattle.lt_modes.specs.Script.{ScriptData}
use Rattle.lt_modes.specs.declared.event.Event.{Event}
use Rattle.lt_spec.specs.World.{Logged}
use Rattle.lt_modes.specs.declared.moves.Step.{Step}
use Rattle.lt_spec.specs.World.{world_after, logged}
use Rattle.lt_journal.specs.declared.line.Line.{Line}
use Rattle.lt_journal.specs.RunLines.{event_lines, line_of_event}
use Rattle.lt_law_journals.specs.Checking.{by_due, place_after, written, is_complete, moved, closing_at_rest}
use Rattle.lt_checker.specs.Checker.{LedTo}
use Rattle.lt_checker.specs.Due.{last_events, due_lines}
use Rattle.lt_world.specs.Fields.{WorldData}
use Rattle.lt_checker.proofs.LeftLines.{drop_get}
use Rattle.lt_checker.proofs.Moving.{IsStepped, next_run, last_of}

-- What is due.

none_from : {X : Type 0} (xs : List X) (k : ℕ) → slice_get xs k ≡ None → drop k xs ≡ []
none_from [] zero e = refl
none_from [] (suc k) e = refl
none_from (x ∷ xs) zero e = absurd (cc)
none_from (x ∷ xs) (suc k) e = none_from xs k e

-- the line of the first event that wasn't told is the first one
pub event_due : (script : ScriptData) (run : List Logged) (told : ℕ) (later : List Line) (event : Event) → slice_get (last_events run) told ≡ Some event
    → due_lines script run told later ≡ line_of_event script.version event ∷ due_lines script run (told + 1) later
event_due script run told later event at = ap (λ (es : List Event). event_lines script.version es ++ later) (drop_get (last_events run) told event at)

-- where all events were told, the later lines are due
pub later_due : (script : ScriptData) (run : List Logged) (told : ℕ) (later : List Line) → slice_get (last_events run) told ≡ None
    → due_lines script run told later ≡ later
later_due script run told later at = ap (λ (es : List Event). event_lines script.version es ++ later) (none_from (last_events run) told at)

-- and so is what comes after the first of them
pub later_first : (script : ScriptData) (run : List Logged) (told : ℕ) (later rest : List Line) (x : Line) → slice_get (last_events run) told ≡ None
    → later ≡ x ∷ rest → due_lines script run told later ≡ x ∷ due_lines script run told rest
later_first script run told later rest x at is =
    later_due script run told later at ∙ (is ∙ ap (λ (d : List Line). x ∷ d) (sym (later_due script run told rest at)))

pub none_left : (script : ScriptData) (run : List Logged) (told : ℕ) (later : List Line) → slice_get (last_events run) told ≡ None → later ≡ []
    → due_lines script run told later ≡ []
none_left script run told later at none = later_due script run told later at ∙ none

pub event_left : (script : ScriptData) (run : List Logged) (told : ℕ) (later : List Line) (event : Event) → slice_get (last_events run) told ≡ Some event
    → is_complete script run (due_lines script run told later) ≡ false
event_left script run told later event at = ap (is_complete script run) (event_due script run told later event at)

pub later_left : (script : ScriptData) (run : List Logged) (told : ℕ) (later : List Line) → slice_get (last_events run) told ≡ None
    → (length later == 0) ≡ false → is_complete script run (due_lines script run told later) ≡ false
later_left script run told later at some = ap (is_complete script run) (later_due script run told later at) ∙ not_all later some
  where
    not_all : (later : List Line) → (length later == 0) ≡ false → is_complete script run later ≡ false
    not_all [] some = absurd (cc)
    not_all (x ∷ later) some = refl

pub no_lines_left : (later : List Line) → (length later == 0) ≡ true → later ≡ []
no_lines_left [] none = refl
no_lines_left (x ∷ later) none = absurd (let e = eqb-true (length (x ∷ later)) 0 none in omega (arith, e))

-- What a line makes of a place where a line is due.

led_at : (script : ScriptData) (run : List Logged) (x : Line) (due : List Line) (line : List ℕ) (same : Bool) → same ≡ bytes_eq line (written script x)
    → LedTo (by_due script run (x ∷ due) line) same run due
led_at script run x due line true is = ap (λ (b : Bool). cond b (Some (record { run = run; due = due })) None) (sym is)
led_at script run x due line false is = ap (λ (b : Bool). cond b (Some (record { run = run; due = due })) None) (sym is)

pub led_by_due : (script : ScriptData) (run : List Logged) (all due : List Line) (x : Line) (line : List ℕ) (same : Bool) → all ≡ x ∷ due
    → same ≡ bytes_eq line (written script x) → LedTo (place_after script (record { run = run; due = all }) line) same run due
led_by_due script run all due x line same parts is =
    subst (λ (d : List Line). LedTo (by_due script run d line) same run due) (sym parts) (led_at script run x due line same is)

-- What is due after a move.

-- the next run, with the lines of its events and the closing lines, is the place after the move
pub next_due : (script : ScriptData) (world : WorldData) (node : ℕ) (step : Step) (next : WorldData) (later : List Line) → IsStepped script world node step next
    → later ≡ closing_at_rest script next.run
    → moved script world.run (logged script (world_after script world.run) node step) ≡ record { run = next.run; due = due_lines script next.run 0 later }
next_due script world node step next later s later_is =
    let entry = logged script (world_after script world.run) node step in
    let all = world.run ++ entry ∷ [] in
    let run_is : next.run ≡ all = next_run script world node step next s in
    let told : last_events all ≡ entry.events = ap (λ (o : Option (List Event)). unwrap_or o []) (last_of world.run entry) in
    let closing : closing_at_rest script all ≡ later = ap (closing_at_rest script) (sym run_is) ∙ sym later_is in
    let same : event_lines script.version entry.events ++ closing_at_rest script all ≡ due_lines script next.run 0 later =
    ap (λ (es : List Event). event_lines script.version (drop 0 es) ++ closing_at_rest script all) (sym told)
    ∙ ap₂ (λ (r : List Logged) (l : List Line). due_lines script r 0 l) (sym run_is) closing in
    λ i. record { run = sym run_is i; due = same i }
