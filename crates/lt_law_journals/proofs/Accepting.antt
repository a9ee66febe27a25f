-- The moves of a run can be counted in a line, and so all its lines can be written and read back.
use Rattle.std.proofs.Common.{◌≡◌, ℕ, ◌^◌, ◌<◌, List, [], ◌∷◌, ◌++◌, length, map, None, refl, ap, ◌∙◌, arith, suc, ◌+◌, ◌==◌, cond, Bool, true, fold, Option, Some, Ok, Err, sym, ap₂, subst, inl, inr, append_assoc, append-nil, eq-eqb}
use Rattle.std.specs.List.{AllByRecursion}
use Rattle.std.proofs.lemmas.Bool.{cases_Bool, and_from}
use Rattle.std.proofs.lemmas.List.{map-append}
use Rattle.std.proofs.lemmas.List.Sums.{fold-append}
use Rattle.std.proofs.lemmas.Slice.Eq.{bytes_eq-Decides}
use Rattle.lt_modes.specs.Script.{ScriptData}
use Rattle.lt_spec.specs.World.{Logged, IsRun, World, start, world_after, is_enabled, is_at_rest, move_stamp, logged, IsMove, IsRunFrom}
use Rattle.lt_spec.specs.Script.{IsScript, IsShort}
use Rattle.lt_text.specs.Text.{lines, cut_at}
use Rattle.lt_journal.specs.declared.line.Line.{Line}
use Rattle.lt_journal.specs.LineFits.{FitsLine}
use Rattle.lt_journal.specs.RunLines.{run_lines, line_words, lines_text, first_lines, event_lines, entry_lines, moves_lines, closing_lines}
use Rattle.lt_journal.proofs.Fitting.{lines_fit}
use Rattle.lt_journal.proofs.Written.{named, few_nodes, plain_line, line_back}
use Rattle.lt_journal.proofs.Plain.{lines_line}
use Rattle.lt_journal.specs.declared.line.Line.TheVariants.{Move as MoveLine}
use Rattle.lt_model.proofs.Runs.{after_run-push}
use Rattle.lt_law_ends.proofs.Short.{runs_are_short}
use Rattle.lt_law_journals.proofs.Short.{fits_in_runs}
use Rattle.lt_law_journals.specs.Checking.{written, journal_lines, first_reader, Place, Reader, closing_at_rest, first_place, moved, is_next, by_move, by_due, place_after, read_on, reader_after, led_to, verdict, verdict_at, checked, IsFinished, lines_so_far, BeginsWith}
use Rattle.lt_law_journals.proofs.Places.{not_at_rest, first_begins, begins_after}

few_in_all : (script : ScriptData) (run : List Logged) → IsScript script → IsShort script → IsRun script run → length run < 2 ^ 64
few_in_all script run is_script is_short is_run = omega (arith, runs_are_short script run is_script is_short is_run)

-- the lines of the run fit, and those that follow it at rest
pub all_fit : (script : ScriptData) (run : List Logged) → IsScript script → IsShort script → IsRun script run
    → AllByRecursion (FitsLine script) (run_lines script run None)
all_fit script run is_script is_short is_run =
    lines_fit script run None (fits_in_runs script run None is_script is_run (few_in_all script run is_script is_short is_run) tt)

pub fit_left : {X : Type 0} (P : X → Type 0) (xs ys : List X) → AllByRecursion P (xs ++ ys) → AllByRecursion P xs
fit_left P [] ys all = tt
fit_left P (x ∷ xs) ys all = (all.0, fit_left P xs ys all.1)

pub fit_right : {X : Type 0} (P : X → Type 0) (xs ys : List X) → AllByRecursion P (xs ++ ys) → AllByRecursion P ys
fit_right P [] ys all = all
fit_right P (x ∷ xs) ys all = fit_right P xs ys all.1

-- the lines of what is written are the lines as they are written
written_lines : (script : ScriptData) (xs : List Line) → IsScript script → AllByRecursion (FitsLine script) xs → lines (lines_text script xs) ≡ map (written script) xs
unfolding lines cut_at
written_lines script [] is_script fits = refl
written_lines script (x ∷ xs) is_script fits =
    lines_line (line_words script x) (lines_text script xs) (plain_line script x (named script is_script) (few_nodes script is_script) fits.0)
    ∙ ap (λ (ls : List (List ℕ)). written script x ∷ ls) (written_lines script xs is_script fits.1)

pub journal_written : (script : ScriptData) (run : List Logged) → IsScript script → IsShort script → IsRun script run
    → journal_lines script run ≡ map (written script) (run_lines script run None)
journal_written script run is_script is_short is_run =
    written_lines script (run_lines script run None) is_script (all_fit script run is_script is_short is_run)

-- The journal of a finished run is accepted, and what is accepted is the journal of a finished run.

abbrev pub at_place : Place → ℕ → Reader
at_place place good = record { place = Some place; good = good }

-- a reader that met a bad line stays as it is
pub stays_bad : (script : ScriptData) (n : ℕ) (ls : List (List ℕ)) → fold (read_on script) (record { place = None; good = n }) ls ≡ record { place = None; good = n }
stays_bad script n [] = refl
stays_bad script n (line ∷ ls) = stays_bad script n ls

-- the place of a reader has the lines that it read
pub begins_all : (script : ScriptData) (read : List (List ℕ)) (place : Place) (n : ℕ) (ls : List (List ℕ)) (last : Place) → BeginsWith script read place
    → (fold (read_on script) (at_place place n) ls).place ≡ Some last → BeginsWith script (read ++ ls) last
begins_all script read place n [] last b e =
    let is : place ≡ last = cc in
    subst (λ (r : List (List ℕ)). BeginsWith script r last) (sym (append-nil read)) (subst (λ (p : Place). BeginsWith script read p) is b)
begins_all script read place n (line ∷ ls) last b e =
    by_next (place_after script place line) refl
    (λ next came rest. begins_all script (read ++ line ∷ []) next (suc n) ls last (begins_after script read place line next b came) rest) e
  where
    by_next : (next : Option Place) → place_after script place line ≡ next
        → ((next : Place) → place_after script place line ≡ Some next → (fold (read_on script) (at_place next (suc n)) ls).place ≡ Some last → BeginsWith script ((read ++ line ∷ []) ++ ls) last)
        → (fold (read_on script) (led_to (at_place place n) next) ls).place ≡ Some last → BeginsWith script (read ++ line ∷ ls) last
    by_next None came again e = absurd (let bad = ap (λ (r : Reader). r.place) (stays_bad script n ls) in cc)
    by_next (Some next) came again e =
        subst (λ (r : List (List ℕ)). BeginsWith script r last) (append_assoc read (line ∷ []) ls) (again next came e)

-- what a verdict says of the place
pub record IsAtEnd (script : ScriptData) (reader : Reader) (run : List Logged) : Type 0 where
  pub place : reader.place ≡ Some (record { run = run; due = [] })
  pub at_rest : is_at_rest script (world_after script run) ≡ true

at_end : (script : ScriptData) (run due_run : List Logged) (due : List Line) (n : ℕ) → verdict_at script n (Some (record { run = due_run; due = due })) ≡ Ok run
    → (due ≡ []) × (due_run ≡ run) × (is_at_rest script (world_after script due_run) ≡ true)
at_end script run due_run [] n e = elim (cases_Bool (is_at_rest script (world_after script due_run))) [
  | inl rest ↦
      let e' : Ok due_run ≡ Ok run = sym (ap (λ (b : Bool). cond b (Ok due_run) (Err (suc n))) rest) ∙ e in
      (refl, cc, rest)
  | inr moves ↦ absurd (let e' : Err (suc n) ≡ Ok run = sym (ap (λ (b : Bool). cond b (Ok due_run) (Err (suc n))) moves) ∙ e in cc)
]
at_end script run due_run (x ∷ due) n e = absurd (cc)

pub accepted_at : (script : ScriptData) (reader : Reader) (run : List Logged) → verdict script reader ≡ Ok run → IsAtEnd script reader run
accepted_at script reader run e = by_place reader.place refl e
  where
    by_place : (o : Option Place) → reader.place ≡ o → verdict_at script reader.good o ≡ Ok run → IsAtEnd script reader run
    by_place None is e = absurd (cc)
    by_place (Some place) is e =
        let at = at_end script run place.run place.due reader.good e in
        record {
          place = is ∙ (λ i. Some (record { run = at.1 i; due = at.0 i }));
          at_rest = ap (λ (r : List Logged). is_at_rest script (world_after script r)) (sym at.1) ∙ at.2;
        }

-- at rest the lines so far are all lines
pub all_lines : (script : ScriptData) (run : List Logged) → is_at_rest script (world_after script run) ≡ true → lines_so_far script run ≡ run_lines script run None
all_lines script run rest = rw rest refl

pub means : (script : ScriptData) (all : List (List ℕ)) (run : List Logged) → IsScript script → IsShort script → checked script all ≡ Ok run
    → IsFinished script run × (all ≡ journal_lines script run)
means script all run is_script is_short e =
    let end = accepted_at script (reader_after script all) run e in
    let b = begins_all script [] (first_place script) 0 all (record { run = run; due = [] }) (first_begins script) end.place in
    let told : b.told ≡ run_lines script run None = sym (append-nil b.told) ∙ (b.parts ∙ all_lines script run end.at_rest) in (
      record { is_run = b.is_run; at_rest = end.at_rest },
      b.lines ∙ (ap (map (written script)) told ∙ sym (journal_written script run is_script is_short b.is_run)),
    )

-- lines that are due are read
pub after_due : (script : ScriptData) (run : List Logged) (x : Line) (due : List Line) → by_due script run (x ∷ due) (written script x) ≡ Some (record { run = run; due = due })
after_due script run x due = ap (λ (b : Bool). cond b (Some (record { run = run; due = due })) None) ((bytes_eq-Decides (written script x) (written script x)).1 refl)

pub reads_due : (script : ScriptData) (run : List Logged) (xs ys : List Line) (n : ℕ) (more : List (List ℕ))
    → (m : ℕ) × (fold (read_on script) (at_place (record { run = run; due = xs ++ ys }) n) (map (written script) xs ++ more)
    ≡ fold (read_on script) (at_place (record { run = run; due = ys }) m) more)
    × (m ≡ n + length xs)
reads_due script run [] ys n more = (n, refl, omega arith)
reads_due script run (x ∷ xs) ys n more =
    let rest = reads_due script run xs ys (suc n) more in (
      rest.0,
      ap (λ (next : Option Place). fold (read_on script) (led_to (at_place (record { run = run; due = x ∷ xs ++ ys }) n) next) (map (written script) xs ++ more))
          (after_due script run x (xs ++ ys)) ∙ rest.1,
      omega (arith, rest.2),
    )

-- the line of a next move is read
after_move : (script : ScriptData) (run : List Logged) (entry : Logged) → IsScript script → IsMove script (world_after script run) entry
    → FitsLine script (MoveLine entry.made.stamp.clock entry.made.stamp.node entry.made.step)
    → by_due script run [] (written script (MoveLine entry.made.stamp.clock entry.made.stamp.node entry.made.step)) ≡ Some (moved script run entry)
after_move script run entry is_script move fits =
    let w = world_after script run in
    let q = entry.made.stamp.node in
    let clock : entry.made.stamp.clock ≡ (move_stamp w q entry.made.step).clock = ap (λ (l : Logged). l.made.stamp.clock) move.made in
    let next : is_next script run entry.made.stamp.clock q entry.made.step ≡ true =
    and_from (is_enabled script w q entry.made.step) (entry.made.stamp.clock == (move_stamp w q entry.made.step).clock) move.enabled (eq-eqb _ _ clock) in
    ap (by_move script run) (line_back script (MoveLine entry.made.stamp.clock q entry.made.step) (named script is_script) (few_nodes script is_script) fits)
    ∙ (ap (λ (b : Bool). cond b (Some (moved script run (logged script w q entry.made.step))) None) next
    ∙ ap (λ (l : Logged). Some (moved script run l)) (sym move.made))

-- what a reader comes to who has read the moves of a run, and at rest the closing lines
reads_run : (script : ScriptData) (later run : List Logged) (xs : List Line) (n : ℕ) → IsScript script → IsRunFrom script (world_after script run) later
    → AllByRecursion (FitsLine script) (moves_lines script.version later)
    → (m : ℕ) × (fold (read_on script) (at_place (record { run = run; due = xs ++ closing_at_rest script run }) n)
    (map (written script) (xs ++ (moves_lines script.version later ++ closing_at_rest script (run ++ later)))) ≡ at_place (record { run = run ++ later; due = [] }) m)
reads_run script [] run xs n is_script is_run fits =
    let same : run ++ [] ≡ run = append-nil run in
    let all = xs ++ closing_at_rest script run in
    let read = reads_due script run all [] n [] in (
      read.0,
      ap (λ (r : List Logged). fold (read_on script) (at_place (record { run = run; due = all }) n) (map (written script) (xs ++ closing_at_rest script r))) same
          ∙ (ap₂ (λ (ys : List Line) (ls : List (List ℕ)). fold (read_on script) (at_place (record { run = run; due = ys }) n) ls) (sym (append-nil all)) (sym (append-nil (map (written script) all)))
          ∙ (read.1 ∙ ap (λ (r : List Logged). at_place (record { run = r; due = [] }) read.0) (sym same))),
    )
reads_run script (entry ∷ later) run xs n is_script is_run fits =
    let w = world_after script run in
    let x = MoveLine entry.made.stamp.clock entry.made.stamp.node entry.made.step in
    let events = event_lines script.version entry.events in
    let none : closing_at_rest script run ≡ [] =
    ap (λ (b : Bool). cond b (closing_lines script run None) []) (not_at_rest script w entry.made.stamp.node entry.made.step is_run.0.enabled) in
    let same : (run ++ entry ∷ []) ++ later ≡ run ++ entry ∷ later = append_assoc run (entry ∷ []) later in
    let rest = moves_lines script.version later ++ closing_at_rest script ((run ++ entry ∷ []) ++ later) in
    let tail : moves_lines script.version (entry ∷ later) ++ closing_at_rest script (run ++ entry ∷ later) ≡ x ∷ (events ++ rest) =
    append_assoc (entry_lines script.version entry) (moves_lines script.version later) (closing_at_rest script (run ++ entry ∷ later))
    ∙ ap (λ (r : List Logged). x ∷ (events ++ (moves_lines script.version later ++ closing_at_rest script r))) (sym same) in
    let more = written script x ∷ map (written script) (events ++ rest) in
    let split : map (written script) (xs ++ (moves_lines script.version (entry ∷ later) ++ closing_at_rest script (run ++ entry ∷ later))) ≡ map (written script) xs ++ more =
    map-append (written script) xs (moves_lines script.version (entry ∷ later) ++ closing_at_rest script (run ++ entry ∷ later))
    ∙ ap (λ (ys : List Line). map (written script) xs ++ map (written script) ys) tail in
    let read = reads_due script run xs [] n more in
    let again = reads_run script later (run ++ entry ∷ []) events (suc read.0) is_script
    (subst (λ (v : World). IsRunFrom script v later) (sym (after_run-push script (start script) run entry)) is_run.1)
    (fit_right (FitsLine script) (entry_lines script.version entry) (moves_lines script.version later) fits) in (
      again.0,
      ap₂ (λ (ys : List Line) (ls : List (List ℕ)). fold (read_on script) (at_place (record { run = run; due = xs ++ ys }) n) ls) none split
          ∙ (read.1
          ∙ (ap (λ (p : Option Place). fold (read_on script) (led_to (at_place (record { run = run; due = [] }) read.0) p) (map (written script) (events ++ rest)))
          (after_move script run entry is_script is_run.0 fits.0)
          ∙ (again.1 ∙ ap (λ (r : List Logged). at_place (record { run = r; due = [] }) again.0) same))),
    )

-- all lines so far of a run are read
reads_so_far : (script : ScriptData) (run : List Logged) → IsScript script → IsShort script → IsRun script run
    → (m : ℕ) × (reader_after script (map (written script) (lines_so_far script run)) ≡ at_place (record { run = run; due = [] }) m)
reads_so_far script run is_script is_short is_run =
    let first = first_lines script.version in
    reads_run script run [] first 0 is_script is_run
    (fit_left (FitsLine script) (moves_lines script.version run) (closing_lines script run None)
    (fit_right (FitsLine script) first (moves_lines script.version run ++ closing_lines script run None) (all_fit script run is_script is_short is_run)))

pub accepts : (script : ScriptData) (run : List Logged) → IsScript script → IsShort script → IsFinished script run → checked script (journal_lines script run) ≡ Ok run
accepts script run is_script is_short done =
    let read = reads_so_far script run is_script is_short done.is_run in
    ap (checked script) (journal_written script run is_script is_short done.is_run ∙ ap (map (written script)) (sym (all_lines script run done.at_rest)))
    ∙ (ap (verdict script) read.1 ∙ ap (λ (b : Bool). cond b (Ok run) (Err (suc read.0))) done.at_rest)

pub none_is_some : {A : Type 0} (place : Place) → None ≡ Some place → A
none_is_some place e = absurd (cc)

-- where lines begin those of a run, none is bad
pub begun : (script : ScriptData) (read : List (List ℕ)) (place : Place) → IsScript script → IsShort script → BeginsWith script read place → (here : Place) × ((reader_after script read).place ≡ Some here)
begun script read place is_script is_short b = by_place (reader_after script read).place refl
  where
    all : map (written script) (lines_so_far script place.run) ≡ read ++ map (written script) place.due
    all = ap (map (written script)) (sym b.parts) ∙ (map-append (written script) b.told place.due ∙ ap (λ (ls : List (List ℕ)). ls ++ map (written script) place.due) (sym b.lines))

    whole : (m : ℕ) × (fold (read_on script) (reader_after script read) (map (written script) place.due) ≡ at_place (record { run = place.run; due = [] }) m)
    whole =
        let read_all = reads_so_far script place.run is_script is_short b.is_run in
        (read_all.0, sym (fold-append (read_on script) (first_reader script) read (map (written script) place.due)) ∙ (ap (reader_after script) (sym all) ∙ read_all.1))

    by_place : (o : Option Place) → (reader_after script read).place ≡ o → (here : Place) × ((reader_after script read).place ≡ Some here)
    by_place None e =
        let is_bad : reader_after script read ≡ record { place = None; good = (reader_after script read).good } = λ i. record { place = e i; good = (reader_after script read).good } in
        none_is_some (record { run = place.run; due = [] })
        (ap (λ (r : Reader). r.place)
        (sym (ap (λ (r : Reader). fold (read_on script) r (map (written script) place.due)) is_bad ∙ stays_bad script (reader_after script read).good (map (written script) place.due)) ∙ whole.1))
    by_place (Some here) e = (here, e)

-- a journal is that of one run
pub one_run : (script : ScriptData) (one other : List Logged) → IsScript script → IsShort script → IsFinished script one → IsFinished script other → journal_lines script one ≡ journal_lines script other → one ≡ other
one_run script one other is_script is_short first second same =
    let both : Ok one ≡ Ok other = sym (accepts script one is_script is_short first) ∙ (ap (checked script) same ∙ accepts script other is_script is_short second) in
    cc
