-- A checker accepts the text of a run that is at rest.
use Rattle.std.proofs.Common.{◌≡◌, ◌==◌, ℕ, ◌+◌, Bool, true, false, not, cond, List, [], ◌∷◌, ◌++◌, length, map, take, drop, position, codes, Option, Some, None, Result, Ok, Err, refl, sym, ap, subst, ◌∙◌, arith, append_assoc, length-append, ◌<◌, inl, inr, take_at, drop_at, nat_lt}
use Rattle.std.specs.List.{AllByRecursion, list_all, position_from}
use Rattle.std.proofs.lemmas.Bool.{cases_Bool}
use Rattle.std.proofs.lemmas.List.{length-map}
use Rattle.std.proofs.lemmas.Iterator.Adapters.{position_from-zero}
use Rattle.lt_modes.specs.Script.{ScriptData}
use Rattle.lt_spec.specs.Script.{IsScript, IsShort}
use Rattle.lt_spec.specs.World.{Logged}
use Rattle.lt_spec.specs.declared.limits.TheConstants.{MAX_LINE}
use Rattle.lt_text.specs.Text.{lines, words, cut_at, text, spaced}
use Rattle.lt_script.specs.declared.fault.Fault.{Fault}
use Rattle.lt_script.specs.declared.fault.Fault.TheVariants as faults
use Rattle.lt_script.specs.declared.fault.ScriptFault.{ScriptFault}
use Rattle.lt_script.specs.Faults.{is_plain_byte}
use Rattle.lt_script.specs.Printing.{version_words, nodes_words, set_words, client_words, command_words, script_words, print_of}
use Rattle.lt_script.specs.Reading.{is_skipped, version_said, line_step, go_on, read_from, script_body, read_body, read_of, unless}
use Rattle.lt_script.proofs.RoundTrip.{read_printed}
use Rattle.lt_journal.specs.RunLines.{text_of}
use Rattle.lt_journal.specs.Split.{says_journal, is_journal_line, input_parts}
use Rattle.lt_journal.proofs.Written.{same_word}
use Rattle.lt_law_journals.specs.Checking.{checked, checked_input, script_in, journal_in, lines_before, counted_from, before_place, after_place, EndsInLineFeed, IsFinished, journal_lines, IsFirstBadIn}
use Rattle.lt_law_journals.proofs.Accepting.{accepts, one_run}
use Rattle.lt_law_journals.proofs.Answers.{accepted_input, refused_input}
use Rattle.lt_law_journals.proofs.Inputs.{lines_split, script_part}
use Rattle.lt_law_apart.specs.Apart.{script_apart, run_apart}
use Rattle.lt_law_apart.proofs.Apart.{apart_run}
use Rattle.lt_checker.specs.Heads.{AnswersInput}
use Rattle.lt_checker.specs.declared.error.InputError.{InputError}
use Rattle.lt_checker.specs.declared.error.InputError.TheVariants.{ReadFault, TooLong, NoMemory, Refused, BadJournal}
use Rattle.lt_checker.specs.declared.input.EndedRun.{EndedRun}
use Rattle.lt_join.specs.JoinLaws.{IsTakenAs, IsAccepted, JoinedIsAccepted}
use Rattle.lt_join.proofs.NodeTexts.{whole_is_script}

-- A text that is read as a script has no line `journal`.

-- the only word of such a line is `journal`
only_journal : (line : List ℕ) → is_journal_line line ≡ true → words line ≡ codes "journal" ∷ []
only_journal line e = by_words (words line) refl e
  where
    by_words : (ws : List (List ℕ)) → words line ≡ ws → says_journal ws ≡ true → words line ≡ codes "journal" ∷ []
    by_words [] same told = cc
    by_words (word ∷ []) same told = same ∙ ap (λ (w : List ℕ). w ∷ []) (same_word word (codes "journal") told)
    by_words (word ∷ other ∷ rest) same told = cc

-- it has a fault wherever it stands
abbrev HasFaultAt : ℕ → Option ScriptData → List ℕ → Type 0
HasFaultAt v st line = (fault : Fault) × (line_step v st line ≡ Err fault)

journal_fault : (v : ℕ) (st : Option ScriptData) (line : List ℕ) → is_journal_line line ≡ true → HasFaultAt v st line
unfolding line_step
journal_fault v st line e = rw (only_journal line e) (by_tests (list_all is_plain_byte line) (nat_lt MAX_LINE (length line)))
  where
    by_tests : (plain long : Bool)
        → (fault : Fault) × (unless (cond (not plain) (Some faults.Bytes) (cond long (Some faults.Length) (Some faults.Form))) st ≡ Err fault)
    by_tests false long = (faults.Bytes, refl)
    by_tests true true = (faults.Length, refl)
    by_tests true false = (faults.Form, refl)

abbrev HasNoJournalLine : List (List ℕ) → Type 0
HasNoJournalLine all = AllByRecursion (λ (line : List ℕ). is_journal_line line ≡ false) all

never_both : (script : ScriptData) (fault : ScriptFault) (read : Result ScriptData ScriptFault) → read ≡ Ok script → read ≡ Err fault → ⊥
never_both script fault read e f = cc

same_script : (s t : ScriptData) (read : Result ScriptData ScriptFault) → read ≡ Ok s → read ≡ Ok t → s ≡ t
same_script s t read e f = cc

none_read_from : (v : ℕ) (all : List (List ℕ)) (k : ℕ) (st : Option ScriptData) (script : ScriptData) → read_from v all k st ≡ Ok script → HasNoJournalLine all
unfolding read_from
none_read_from v [] k st script e = tt
none_read_from v (line ∷ rest) k st script e = elim (cases_Bool (is_journal_line line)) [
  | inl here ↦
      let bad = journal_fault v st line here in
      absurd (never_both script (record { line = k; fault = bad.0 }) (go_on k (read_from v rest (k + 1)) (line_step v st line)) e
      (ap (go_on k (read_from v rest (k + 1))) bad.1))
  | inr other ↦ (other, by_step (line_step v st line) (λ next told. none_read_from v rest (k + 1) next script told) e)
]
  where
    by_step : (step : Result (Option ScriptData) Fault)
        → ((next : Option ScriptData) → read_from v rest (k + 1) next ≡ Ok script → HasNoJournalLine rest)
        → go_on k (read_from v rest (k + 1)) step ≡ Ok script → HasNoJournalLine rest
    by_step (Ok next) again told = again next told
    by_step (Err fault) again told = absurd (cc)

-- the line `journal` is neither skipped, nor does it say a version
journal_stays : (line : List ℕ) (rest : List (List ℕ)) (k : ℕ) → words line ≡ codes "journal" ∷ []
    → read_body (script_body (line ∷ rest) k) ≡ read_from 1 (line ∷ rest) k None
unfolding script_body
journal_stays line rest k only = rw only (by_length (nat_lt MAX_LINE (length line)))
  where
    by_length : (long : Bool)
        → read_body (cond (cond long 1 1 == 1) (record { version = 1; first = k; lines = line ∷ rest }) (record { version = cond long 1 1; first = k + 1; lines = rest }))
        ≡ read_from 1 (line ∷ rest) k None
    by_length true = refl
    by_length false = refl

journal_first : (line : List ℕ) (rest : List (List ℕ)) (k : ℕ) (script : ScriptData) → is_journal_line line ≡ true
    → read_body (script_body (line ∷ rest) k) ≡ Ok script → ⊥
unfolding read_from
journal_first line rest k script here e =
    let bad = journal_fault 1 None line here in
    never_both script (record { line = k; fault = bad.0 }) (read_body (script_body (line ∷ rest) k)) e
    (journal_stays line rest k (only_journal line here) ∙ ap (go_on k (read_from 1 rest (k + 1))) bad.1)

none_read : (all : List (List ℕ)) (k : ℕ) (script : ScriptData) → read_body (script_body all k) ≡ Ok script → HasNoJournalLine all
unfolding script_body
none_read [] k script e = tt
none_read (line ∷ rest) k script e = elim (cases_Bool (is_journal_line line)) [
  | inl here ↦ absurd (journal_first line rest k script here e)
  | inr other ↦ (other, by_tests (is_skipped line) (version_said line) (version_said line == 1) (λ told. none_read rest (k + 1) script told) e)
]
  where
    by_tests : (skipped : Bool) (v : ℕ) (first : Bool) → (read_body (script_body rest (k + 1)) ≡ Ok script → HasNoJournalLine rest)
        → read_body (cond skipped (script_body rest (k + 1))
        (cond first (record { version = 1; first = k; lines = line ∷ rest }) (record { version = v; first = k + 1; lines = rest }))) ≡ Ok script
        → HasNoJournalLine rest
    by_tests true v first again told = again told
    by_tests false v true again told = (none_read_from 1 (line ∷ rest) k None script told).1
    by_tests false v false again told = none_read_from v rest (k + 1) None script told

none_in_script : (bytes : List ℕ) (script : ScriptData) → read_of bytes ≡ Ok script → HasNoJournalLine (lines bytes)
none_in_script bytes script e = none_read (lines bytes) 1 script e

-- Where the journal stands behind a script.

-- the text of some lines ends in a line feed
text_ends : (line : List ℕ) (rest : List (List ℕ)) → EndsInLineFeed (text (line ∷ rest))
text_ends line [] = (line, refl)
text_ends line (other ∷ rest) =
    let later = text_ends other rest in
    (line ++ 10 ∷ later.0, ap (λ (t : List ℕ). line ++ 10 ∷ t) later.1 ∙ sym (append_assoc line (10 ∷ later.0) (10 ∷ [])))

print_ends : (script : ScriptData) → EndsInLineFeed (print_of script)
unfolding print_of
print_ends script = by_lines (map spaced (script_words script)) (some_lines script)
  where
    by_lines : (ls : List (List ℕ)) → 0 < length ls → EndsInLineFeed (text ls)
    by_lines [] some = absurd (omega (arith, some))
    by_lines (line ∷ rest) some = text_ends line rest

    some_lines : (s : ScriptData) → 0 < length (map spaced (script_words s))
    some_lines s =
        omega (
          arith,
          length-map (script_words s) spaced,
          length-append (version_words s.version)
              (nodes_words s.nodes ∷ (map (set_words s.sets) s.sets ++ (map client_words s.clients ++ map (command_words s) s.commands))),
        )

-- the line `journal` is found behind lines that are none
found_behind : (i : ℕ) (before after : List (List ℕ)) (line : List ℕ) → HasNoJournalLine before → is_journal_line line ≡ true
    → position_from is_journal_line i (before ++ line ∷ after) ≡ Some (i + length before)
found_behind i [] after line none here = rw here (ap Some (omega arith))
found_behind i (other ∷ before) after line none here =
    rw none.0 (found_behind (i + 1) before after line none.1 here ∙ ap Some (omega arith))

-- An input of a script and the journal of a run of it that is at rest.
module _ (script : ScriptData) (run : List Logged) (is_script : IsScript script) (short : IsShort script)
    (finished : IsFinished script run) where
  abbrev behind : List ℕ
  behind = text_of script run None

  abbrev bytes : List ℕ
  bytes = print_of script ++ (codes "journal" ++ 10 ∷ behind)

  line_first : lines (codes "journal" ++ 10 ∷ behind) ≡ codes "journal" ∷ lines behind
  unfolding lines cut_at
  line_first = refl

  all_lines : lines bytes ≡ lines (print_of script) ++ codes "journal" ∷ lines behind
  all_lines =
      lines_split (print_of script) (codes "journal" ++ 10 ∷ behind) (print_ends script)
      ∙ ap (λ (ls : List (List ℕ)). lines (print_of script) ++ ls) line_first

  is_one : is_journal_line (codes "journal") ≡ true
  unfolding words cut_at
  is_one = refl

  place : position is_journal_line (lines bytes) ≡ Some (length (lines (print_of script)))
  place =
      ap (position is_journal_line) all_lines
      ∙ position_from-zero is_journal_line (lines (print_of script) ++ codes "journal" ∷ lines behind)
      ∙ found_behind 0 (lines (print_of script)) (lines behind) (codes "journal")
      (none_in_script (print_of script) script (read_printed script is_script short)) is_one
      ∙ ap Some (omega arith)

  script_lines : script_in (lines bytes) ≡ lines (print_of script)
  script_lines =
      ap (before_place (lines bytes)) place
      ∙ ap (take (length (lines (print_of script)))) all_lines
      ∙ take_at (lines (print_of script)) (codes "journal" ∷ lines behind) (length (lines (print_of script))) refl

  journal_is : journal_in (lines bytes) ≡ lines behind
  journal_is =
      ap (after_place (lines bytes)) place
      ∙ ap (drop (length (lines (print_of script)) + 1)) (all_lines ∙ sym (append_assoc (lines (print_of script)) (codes "journal" ∷ []) (lines behind)))
      ∙ drop_at (lines (print_of script) ++ codes "journal" ∷ []) (lines behind) (length (lines (print_of script)) + 1)
      (omega (arith, length-append (lines (print_of script)) (codes "journal" ∷ [])))

  denoted : read_of (take (input_parts bytes).script bytes) ≡ Ok script
  denoted =
      ap (λ (ls : List (List ℕ)). read_body (script_body ls 1)) (script_part bytes ∙ script_lines)
      ∙ read_printed script is_script short

  is_accepted : checked_input script (lines bytes) ≡ Ok run
  is_accepted =
      ap (λ (ls : List (List ℕ)). counted_from (lines_before (lines bytes)) (checked script ls)) journal_is
      ∙ ap (counted_from (lines_before (lines bytes))) (accepts script run is_script short finished)

  never_bad : (line : ℕ) (told : Result (List Logged) ℕ) → told ≡ Ok run → told ≡ Err line → ⊥
  never_bad line told e f = cc

  taken : (answer : Result EndedRun InputError) → AnswersInput bytes answer → IsTakenAs script run answer
  taken (Ok ended) told =
      let same = same_script ended.script script (read_of (take (input_parts bytes).script bytes)) told.denoted denoted in
      let ends = subst (λ (s : ScriptData). IsFinished s ended.world.run) same told.finished in
      let its = (accepted_input script bytes run is_script short).0 is_accepted in
      let journals : journal_lines script ended.world.run ≡ journal_lines script run =
      ap (λ (s : ScriptData). journal_lines s ended.world.run) (sym same) ∙ (sym told.accepted ∙ its.1) in
      (same, one_run script ended.world.run run is_script short ends finished journals)
  taken (Err NoMemory) told = tt
  taken (Err (Refused fault)) told = never_both script fault (read_of (take (input_parts bytes).script bytes)) denoted told
  taken (Err (BadJournal line)) told =
      let same = same_script told.0 script (read_of (take (input_parts bytes).script bytes)) told.2 denoted in
      let bad = (refused_input script bytes line is_script short).1 (subst (λ (s : ScriptData). IsFirstBadIn s line bytes) same told.3) in
      never_bad line (checked_input script (lines bytes)) is_accepted bad
  taken (Err ReadFault) told = told
  taken (Err TooLong) told = told

  accepted_here : IsAccepted script run bytes
  accepted_here = record { denoted = denoted; checked = is_accepted; taken = taken }

pub joined_is_accepted : JoinedIsAccepted
joined_is_accepted first nodes h rest =
    accepted_here (script_apart first nodes) (run_apart first nodes) (whole_is_script first nodes h) h.short
    (record { is_run = (apart_run first nodes h.apart).is_run; at_rest = rest })
