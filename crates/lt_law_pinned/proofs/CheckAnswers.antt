-- What `check` says of the small journals.
use Rattle.std.proofs.Common.{◌≡◌, ℕ, List, [], ◌∷◌, ◌++◌, Ok, Err, Some, refl, ap, ap₂, subst, ◌∙◌, arith, inl, inr, drop, ◌≢◌, ◌+◌, true, sym, subst₂, Result, take, codes, decimal, length, Option}
use Rattle.std.proofs.lemmas.Bool.{false≢true}
use Rattle.lt_modes.specs.Script.{ScriptData}
use Rattle.lt_modes.specs.Modes.{conflicts}
use Rattle.lt_spec.specs.World.{Logged}
use Rattle.lt_spec.specs.Script.{IsScript}
use Rattle.lt_spec.specs.declared.moves.TheConstants.{MAX_MOVES}
use Rattle.lt_io.specs.Streams.{Rose, RoseBy, SourceState, Pace}
use Rattle.lt_text.specs.Text as text
use Rattle.lt_text.specs.Text.{lines}
use Rattle.lt_script.specs.declared.fault.ScriptFault.{ScriptFault}
use Rattle.lt_script.specs.declared.fault.Fault.TheVariants as faults
use Rattle.lt_script.specs.Reading.{read_of}
use Rattle.lt_script.proofs.ShortScripts.{read_is_short}
use Rattle.lt_words.specs.declared.command.Command.{Command}
use Rattle.lt_words.specs.declared.command.Command.TheVariants.{Run, SimFirst, Sim, Check, Make, Order}
use Rattle.lt_journal.specs.Split as split
use Rattle.lt_journal.specs.Split.{input_parts}
use Rattle.lt_law_journals.specs.Checking.{checked, checked_input, counted_from, journal_in, lines_before, IsFirstBadIn, IsFinished}
use Rattle.lt_law_journals.proofs.Answers.{accepted_input, refused_input}
use Rattle.lt_law_journals.proofs.Inputs.{journal_part, lines_counted, no_lines}
use Rattle.lt_law_journals.proofs.RowAnswers.{short_rows}
use Rattle.lt_checker.specs.Input.{IsJournalOf, IsBad, IsGoodToLast, HasFaultBefore, WantsMemory}
use Rattle.lt_checker.specs.declared.limits.TheConstants.{MAX_JOURNAL}
use Rattle.lt_call.specs.Outcomes.{IsEnding, SaysOfSource, SaysOfSink, WritesNothing}
use Rattle.lt_call.specs.Scripts.{HasFault}
use Rattle.lt_serve.specs.declared.status.Status.TheVariants.{Done, Stuck, Usage, Refused, TooLong, ReadFault, WriteFault, NoMemory, Cut, BadJournal}
use Rattle.lt_serve.specs.TopCall.{Checks, Did}
use Rattle.lt_serve.specs.declared.limits.TheConstants.{MAX_INPUT}
use Rattle.lt_serve.specs.declared.status.Status.{Status}
use Rattle.lt_serve.specs.Status.{outcome_of}
use Rattle.lt_serve.specs.Serves.{IsGood, IsAnswered, GoesWell, IsComplete}
use Rattle.lt_serve.specs.Causes.{reads, HasStatusCause, limit_of}
use Rattle.lt_law_pinned.proofs.TwoWritersSay.{same_script, same_run, same_line, same_fault, run_or_line, script_or_fault, one_lock_read, same_bytes, one_lock_says, cut_short_says}
use Rattle.lt_law_pinned.specs.Examples.{one_lock, one_lock_script, the_move, Says, OnlyJournal, one_lock_journal, two_writers}
use Rattle.lt_law_pinned.specs.OtherAnswers.{CheckSays, checked_lock, wrong_mode, no_mode, checked_no_mode, fresh_source, FailuresSay, UnwrittenSays, CompleteSays, IsDone, read_whole, ServesSay}
use Rattle.lt_law_pinned.proofs.Refusals.{no_mode_read}
use Rattle.lt_law_pinned.proofs.MakeAnswers.{one_text}

right_before : take (input_parts checked_lock).script checked_lock ≡ one_lock
unfolding text.lines text.cut_at text.words split.after_first_line
right_before = refl

wrong_before : take (input_parts wrong_mode).script wrong_mode ≡ one_lock
unfolding text.lines text.cut_at text.words split.after_first_line
wrong_before = refl

no_mode_before : take (input_parts checked_no_mode).script checked_no_mode ≡ no_mode
unfolding text.lines text.cut_at text.words split.after_first_line
no_mode_before = refl

right_lines : journal_in (lines checked_lock)
    ≡ codes "move 1 0 act a" ∷ codes "grant a s read" ∷ codes "held a s read 1" ∷ codes "owner s 0 0" ∷ codes "end 1" ∷ []
unfolding text.lines text.cut_at text.words
right_lines = refl

wrong_lines : journal_in (lines wrong_mode)
    ≡ codes "move 1 0 act a" ∷ codes "grant a s write" ∷ codes "held a s read 1" ∷ codes "owner s 0 0" ∷ codes "end 1" ∷ []
unfolding text.lines text.cut_at text.words
wrong_lines = refl

right_count : lines_before (lines checked_lock) ≡ 5
unfolding text.lines text.cut_at text.words
right_count = refl

wrong_count : lines_before (lines wrong_mode) ≡ 5
unfolding text.lines text.cut_at text.words
wrong_count = refl

right_answer : checked_input one_lock_script (lines checked_lock) ≡ Ok (the_move ∷ [])
unfolding conflicts text.lines
right_answer =
    ap₂ (λ (before : ℕ) (all : List (List ℕ)). counted_from before (checked one_lock_script all)) right_count right_lines
    ∙ ap (counted_from 5) short_rows.right

wrong_answer : checked_input one_lock_script (lines wrong_mode) ≡ Err 7
wrong_answer =
    ap₂ (λ (before : ℕ) (all : List (List ℕ)). counted_from before (checked one_lock_script all)) wrong_count wrong_lines
    ∙ ap (counted_from 5) short_rows.wrong_mode

-- the script of an input that begins with the one lock
one_script : (input : List ℕ) (script : ScriptData) → take (input_parts input).script input ≡ one_lock
    → read_of (take (input_parts input).script input) ≡ Ok script → script ≡ one_lock_script
one_script input script before denoted =
    same_script script one_lock_script (read_of one_lock) (subst (λ (bytes : List ℕ). read_of bytes ≡ Ok script) before denoted) one_lock_read

-- so the answer is that to the one lock's script
answered : (input : List ℕ) (script : ScriptData) (answer : Result (List Logged) ℕ) → take (input_parts input).script input ≡ one_lock
    → read_of (take (input_parts input).script input) ≡ Ok script → checked_input script (lines input) ≡ answer
    → checked_input one_lock_script (lines input) ≡ answer
answered input script answer before denoted e =
    subst (λ (s : ScriptData). checked_input s (lines input) ≡ answer) (one_script input script before denoted) e

-- what is told of the journal in an input is what it is answered
pub accepted_run : (input : List ℕ) (script : ScriptData) (run : List Logged) → IsScript script → read_of (take (input_parts input).script input) ≡ Ok script
    → IsFinished script run → IsJournalOf (Some input) script run → checked_input script (lines input) ≡ Ok run
accepted_run input script run is_script denoted finished journal =
    (accepted_input script input run is_script (read_is_short (take (input_parts input).script input) script denoted)).1 (finished, journal)

pub refused_line : (input : List ℕ) (script : ScriptData) (line : ℕ) → IsScript script → read_of (take (input_parts input).script input) ≡ Ok script
    → IsFirstBadIn script line input → checked_input script (lines input) ≡ Err line
refused_line input script line is_script denoted bad =
    (refused_input script input line is_script (read_is_short (take (input_parts input).script input) script denoted)).1 bad

right_run : (run : List Logged) (text : List ℕ) → Checks Done (Some checked_lock) run text → run ≡ the_move ∷ []
right_run run text k =
    same_run run (the_move ∷ []) (checked_input one_lock_script (lines checked_lock))
    (answered checked_lock k.script (Ok run) right_before k.denoted (accepted_run checked_lock k.script run k.is_script k.denoted k.finished k.accepted)) right_answer

pub never_bad : (line : ℕ) → IsBad (Some checked_lock) line → ⊥
never_bad line is =
    run_or_line (the_move ∷ []) line (checked_input one_lock_script (lines checked_lock)) right_answer
    (answered checked_lock is.0 (Err line) right_before is.2 (refused_line checked_lock is.0 line is.1 is.2 is.3))

pub without_fault : (fault : ScriptFault) → HasFaultBefore (Some checked_lock) fault → ⊥
without_fault fault h =
    script_or_fault one_lock_script fault (read_of one_lock) one_lock_read (subst (λ (bytes : List ℕ). read_of bytes ≡ Err fault) right_before h)

abbrev ok_text : List Logged → List ℕ
ok_text run = codes "ok " ++ decimal (length run) ++ codes "\n"

ok_one : ok_text (the_move ∷ []) ≡ codes "ok 1\n"
ok_one = ap (λ (number : List ℕ). codes "ok " ++ number ++ codes "\n") one_text

pub check_says : CheckSays
check_says = record {
  done = λ run old new t. t.2 ∙ ap (λ (text : List ℕ). old ++ text) (t.1.counted ∙ (ap ok_text (right_run run t.0 t.1) ∙ ok_one));
  run = λ run old new t. right_run run t.0 t.1;
  never_bad = λ line h. never_bad line (h.bad_journal line refl).1;
  bad = λ line h.
      let is = (h.bad_journal line refl).1 in
      same_line line 7 (checked_input one_lock_script (lines wrong_mode)) (answered wrong_mode is.0 (Err line) wrong_before is.2 (refused_line wrong_mode is.0 line is.1 is.2 is.3)) wrong_answer;
  never_done = λ run old new t.
      let accepted = accepted_run wrong_mode t.1.script run t.1.is_script t.1.denoted t.1.finished t.1.accepted in
      run_or_line run 7 (checked_input one_lock_script (lines wrong_mode)) (answered wrong_mode t.1.script (Ok run) wrong_before t.1.denoted accepted) wrong_answer;
  fault = λ fault h.
      same_fault fault (record { line = 4; fault = faults.Mode }) (read_of no_mode)
      (subst (λ (bytes : List ℕ). read_of bytes ≡ Err fault) no_mode_before (h.refused fault refl).1) no_mode_read;
  never_refused = λ fault h. without_fault fault (h.refused fault refl).1;
}

-- What is said where something fails, and where nothing does.

pub failures_say : FailuresSay
failures_say = record {
  no_memory = λ run old new t. (t.0, same_bytes new old t.1);
  too_long = λ run old new t. (t.0, same_bytes new old t.1);
  read_fault = λ run old new t. (t.0, same_bytes new old t.1);
  bad_journal = λ run old new t. (t.0, same_bytes new old t.1);
}

pub unwritten_says : UnwrittenSays
unwritten_says = record {
  usage = tt;
  refused = λ fault. tt;
  too_long = tt;
  read_fault = tt;
  no_memory = tt;
  bad_journal = λ line. tt;
}

-- a count that stays at 0 didn't rise
pub no_rise : Rose 0 0 → ⊥
no_rise h = omega (arith, h)

short_script : RoseBy (MAX_INPUT + 1) 0 (length one_lock) → ⊥
short_script h = omega (arith, h)

short_journal : RoseBy (MAX_JOURNAL + 1) 0 (length checked_lock) → ⊥
short_journal h = omega (arith, h)

no_fault : (fault : ScriptFault) → HasFault (Some one_lock) fault → ⊥
no_fault fault h = script_or_fault one_lock_script fault (read_of one_lock) one_lock_read h

pub good_first : IsGood SimFirst (fresh_source (Some one_lock)) (read_whole one_lock)
good_first = record { no_read_fault = no_rise; not_too_long = short_script; no_fault = no_fault; no_bad_line = λ e. cc }

pub good_drawn : (seed : ℕ) → IsGood (Sim seed) (fresh_source (Some one_lock)) (read_whole one_lock)
good_drawn seed = record { no_read_fault = no_rise; not_too_long = short_script; no_fault = no_fault; no_bad_line = λ e. cc }

pub good_threads : IsGood Run (fresh_source (Some one_lock)) (read_whole one_lock)
good_threads = record { no_read_fault = no_rise; not_too_long = short_script; no_fault = no_fault; no_bad_line = λ e. cc }

good_order : IsGood Order (fresh_source (Some one_lock)) (read_whole one_lock)
good_order = record { no_read_fault = no_rise; not_too_long = short_script; no_fault = no_fault; no_bad_line = λ e. cc }

good_check : IsGood Check (fresh_source (Some checked_lock)) (read_whole checked_lock)
good_check = record { no_read_fault = no_rise; not_too_long = short_journal; no_fault = without_fault; no_bad_line = λ e. never_bad }

-- nothing goes wrong with a good input
abbrev pub goes_well : (command : Command) (answer : Status) (before after : SourceState) → (reads (Some command) ≡ true → IsGood command before after) → answer ≢ NoMemory
    → GoesWell (Some command) answer before after 0 0
goes_well command answer before after good there =
    record { command = command; is_asked = refl; good = good; no_write_fault = no_rise; memory = there }

-- of the ends that a run can have only one is that of the script with one lock
only_done : (command : Command) → OnlyJournal command one_lock one_lock_journal → (answer : Status) → IsEnding (outcome_of answer)
    → (run : List Logged) (old new : List ℕ) → Says MAX_MOVES command answer one_lock run old new → answer ≡ Done
only_done command only Done e run old new t = refl
only_done command only Stuck e run old new t = absurd (only.never_stuck run old new t)
only_done command only (Cut node) e run old new t = absurd (only.never_cut node run old new t)
only_done command only Usage e run old new t = absurd e
only_done command only (Refused fault) e run old new t = absurd e
only_done command only TooLong e run old new t = absurd e
only_done command only ReadFault e run old new t = absurd e
only_done command only WriteFault e run old new t = absurd e
only_done command only NoMemory e run old new t = absurd e
only_done command only (BadJournal line) e run old new t = absurd e

is_done : (command : Command) → OnlyJournal command one_lock one_lock_journal → IsGood command (fresh_source (Some one_lock)) (read_whole one_lock)
    → ((answer : Status) → IsAnswered command answer → IsEnding (outcome_of answer)) → IsDone command
is_done command only good ends answer run old new complete t there =
    only_done command only answer (ends answer (complete (goes_well command answer _ _ (λ reads. good) there))) run old new t

pub complete_says : CompleteSays
complete_says = record {
  first = is_done SimFirst one_lock_says.first good_first (λ answer e. e);
  drawn = λ seed. is_done (Sim seed) (one_lock_says.drawn seed) (good_drawn seed) (λ answer e. e);
  threads = is_done Run one_lock_says.threads good_threads (λ answer e. e);
  check = λ answer complete there. complete (goes_well Check answer _ _ (λ reads. good_check) there);
  order = λ answer complete there. complete (goes_well Order answer _ _ (λ reads. good_order) there);
  make = λ answer complete there. complete (goes_well (Make 1 1 1 1 7) answer _ _ (λ reads. absurd (false≢true reads)) there);
}

-- What follows of all that is said of an answer.

-- what an answer says of this input and these bytes of the sink
told : (moves : ℕ) (command : Command) (a b : Status) (left input : Option (List ℕ)) (run : List Logged) (held old lastly new : Option (List ℕ))
    → a ≡ b → left ≡ input → held ≡ old → lastly ≡ new → Did moves (Some command) a left run held lastly → Did moves (Some command) b input run old new
told moves command a b left input run held old lastly new same read before after t =
    subst₂ (λ (x : Status) (y : Option (List ℕ)). Did moves (Some command) x y run old new) same read
    (subst₂ (λ (x y : Option (List ℕ)). Did moves (Some command) a left run x y) before after t)

complete_so : (a : Status) (before after : SourceState) (first last : ℕ) → before ≡ fresh_source (Some checked_lock) → after ≡ read_whole checked_lock
    → first ≡ 0 → last ≡ 0 → IsComplete (Some Check) a before after first last
    → IsComplete (Some Check) a (fresh_source (Some checked_lock)) (read_whole checked_lock) 0 0
complete_so a before after first last at_first lastly none still h =
    subst₂ (λ (x y : SourceState). IsComplete (Some Check) a x y 0 0) at_first lastly
    (subst₂ (λ (x y : ℕ). IsComplete (Some Check) a before after x y) none still h)

not_unread : (x y : SourceState) → x ≡ fresh_source (Some wrong_mode) → y ≡ read_whole wrong_mode → y ≡ x → ⊥
not_unread x y at_first lastly same =
    omega (arith, ap (λ (s : SourceState). s.ends) at_first, ap (λ (s : SourceState). s.ends) lastly, ap (λ (s : SourceState). s.ends) same)

five_lines : length (lines (drop (input_parts wrong_mode).journal wrong_mode)) ≡ 5
five_lines = ap (λ (all : List (List ℕ)). length all) (journal_part wrong_mode ∙ wrong_lines)

-- the second line of its journal is the first bad one
second_bad : (script : ScriptData) → IsScript script → read_of (take (input_parts wrong_mode).script wrong_mode) ≡ Ok script → IsFirstBadIn script 7 wrong_mode
second_bad script is_script denoted =
    (refused_input script wrong_mode 7 is_script (read_is_short (take (input_parts wrong_mode).script wrong_mode) script denoted)).0
    (subst (λ (s : ScriptData). checked_input s (lines wrong_mode) ≡ Err 7) (sym (one_script wrong_mode script wrong_before denoted)) wrong_answer)

not_good : IsGoodToLast wrong_mode → ⊥
not_good good =
    let bad = second_bad good.script good.is_script good.denoted in
    omega (arith, bad.1, lines_counted wrong_mode, wrong_count, good.last bad.0 bad.2, five_lines)

not_wanted : WantsMemory (fresh_source (Some wrong_mode)) (read_whole wrong_mode) → ⊥
not_wanted wants = elim wants.good [
  | inl same ↦ omega (arith, same)
  | inr may ↦ elim may [
    | inl none ↦ omega (arith, five_lines, ap (λ (bytes : List ℕ). length (lines bytes)) none, ap (λ (all : List (List ℕ)). length all) no_lines)
    | inr good ↦ not_good good
  ]
]

pub serves_say : {S K : Type 0} (state : S → SourceState) (held : K → Option (List ℕ)) (faults : K → ℕ) (pace : K → Option Pace) → ServesSay state held faults pace
serves_say state held faults pace = record {
  unwritten = λ answer s t k l h is. h.unwritten (subst (λ (a : Status). WritesNothing (outcome_of a)) (sym is) tt);
  unread = λ answer s t k l h. h.unread refl;
  writing = λ answer s t k l h is.
      (subst (λ (a : Status). SaysOfSink (outcome_of a) (faults k) (faults l)) is h.writing).no_write_fault (λ e. cc);
  reading = λ answer s t k l h is.
      let told = subst (λ (a : Status). SaysOfSource (limit_of (Some SimFirst)) (outcome_of a) (state s) (state t)) is (h.reading refl) in
      (told.no_read_fault (λ e. cc), told.not_too_long (λ e. cc));
  told = λ answer s t k l h is input old new before after.
      let so = told MAX_MOVES Check answer.status Done (state s).left (Some checked_lock) answer.run.entries (held k) (Some old) (held l) (Some new)
      is input before after h.did in
      (check_says.run answer.run.entries old new so, check_says.done answer.run.entries old new so);
  cut = λ answer s t k l h is input old new before after.
      cut_short_says.cut answer.run.entries old new
      (told 1 SimFirst answer.status (Cut 0) (state s).left (Some two_writers) answer.run.entries (held k) (Some old) (held l) (Some new)
      is input before after h.did);
  bad = λ answer s t k l h line is input.
      check_says.bad line (subst₂ (λ (left : Option (List ℕ)) (a : Status). HasStatusCause (Some Check) left a) input is h.causes);
  memory = λ answer s t k l h is at. elim (h.memory is refl) [
    | inl same ↦ inl same
    | inr rose ↦ inr (omega (arith, rose, ap (λ (x : SourceState). x.given) at))
  ];
  no_memory = λ answer s t k l h at_first lastly is. elim (h.memory is refl) [
    | inl same ↦ absurd (not_unread (state s) (state t) at_first lastly (ap state same))
    | inr wants ↦ not_wanted (subst₂ (λ (x y : SourceState). WantsMemory x y) at_first lastly wants)
  ];
  wrong_words = λ answer s t k l h.
      let usage = h.causes.usage.1 refl in
      (usage, h.unread refl, h.unwritten (subst (λ (a : Status). WritesNothing (outcome_of a)) (sym usage) tt));
  complete = λ answer s t k l h at_first lastly none still there.
      complete_says.check answer.status (complete_so answer.status (state s) (state t) (faults k) (faults l) at_first lastly none still h.complete) there;
}
