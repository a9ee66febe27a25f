-- Each field of what is said of a report of who waits for whom.
use Rattle.std.proofs.Common.{◌≡◌, ◌++◌, ℕ, List, [], Ok, Err, Option, Some, refl, sym, ap, ap₂, subst, inl, ◌∙◌, Result, take, codes}
use Rattle.std.specs.Io.KnownBytes.{Appends}
use Rattle.lt_io.specs.Streams.{AppendsPart}
use Rattle.lt_modes.specs.Script.{ScriptData}
use Rattle.lt_spec.specs.World.{Logged, world_after}
use Rattle.lt_spec.specs.Script.{IsScript}
use Rattle.lt_spec.specs.Rings.{waits_report}
use Rattle.lt_text.specs.Text.{lines}
use Rattle.lt_call.specs.Outcomes.{IsRefused}
use Rattle.lt_script.specs.declared.fault.ScriptFault.{ScriptFault}
use Rattle.lt_script.specs.Reading.{read_of}
use Rattle.lt_script.proofs.ShortScripts.{read_is_short}
use Rattle.lt_journal.specs.Split.{input_parts}
use Rattle.lt_law_journals.specs.Checking.{checked_input, IsFinished, IsFirstBadIn}
use Rattle.lt_law_journals.proofs.Answers.{accepted_input, refused_input}
use Rattle.lt_checker.specs.Input.{DenotesBefore, IsJournalOf, IsBad, WantsMemory}
use Rattle.lt_waits.specs.declared.answer.Answer.{Answer}
use Rattle.lt_waits.specs.declared.answer.Answer.TheVariants.{Done, Usage, Refused, TooLong, ReadFault, WriteFault, NoMemory, BadJournal}
use Rattle.lt_waits.specs.Answers.{outcome_of}
use Rattle.lt_waits.specs.Serves.{waits_text, IsReportOf, IsUnfit}
use Rattle.lt_law_pinned.proofs.TwoWritersSay.{same_script, same_fault, script_or_fault, same_run, same_line, run_or_line}
use Rattle.lt_law_pinned.proofs.CheckAnswers.{accepted_run, refused_line}
use Rattle.lt_law_pinned.specs.PlainCalls.{PlainCall, ReadsPlain, PlainlyTold}
use Rattle.lt_law_pinned.specs.Reports.{ReportCodesAre, ReportTextsAre, IsReportCall, Reports, ReportsTold, no_nodes_fault, writers_apart, writers_report, both_change, wrong_grant}
use Rattle.lt_law_pinned.proofs.ReportInputs.{InputIs, apart_script, writer_moves, change_script, change_moves, nothing_read, apart_is, change_is, wrong_is, apart_text, change_text, void_is_told}
use Rattle.lt_law_pinned.proofs.ReportScripts.{apart_is_script, change_is_script}
use Rattle.lt_law_pinned.proofs.PlainCallsOpened.{plainly_told, part_so, appended, one_text, five_text, seven_text}

pub report_codes_are : ReportCodesAre
report_codes_are = record {
  done = refl;
  usage = refl;
  refused = refl;
  too_long = refl;
  read_fault = refl;
  write_fault = refl;
  no_memory = refl;
  bad_journal = refl;
  input = refl;
}

pub report_texts_are : ReportTextsAre
report_texts_are = record {
  done = refl;
  usage = refl;
  refused = ap₂ (λ (line number : List ℕ). codes "lockwaits: " ++ (codes "line " ++ line ++ codes ": S" ++ number)) one_text five_text;
  too_long = refl;
  read_fault = refl;
  write_fault = refl;
  no_memory = refl;
  bad_journal = ap (λ (line : List ℕ). codes "lockwaits: line " ++ line ++ codes ": journal") seven_text;
}

-- the run that is told is the one that the input says
pub run_so : (bytes : List ℕ) (script : ScriptData) (answer : Result (List Logged) ℕ) (told : ScriptData) (run : List Logged)
    → IsScript script → InputIs bytes script answer → DenotesBefore (Some bytes) told → IsJournalOf (Some bytes) told run → IsFinished told run
    → answer ≡ Ok run
run_so bytes script answer told run is_script is denoted accepted finished =
    let same = same_script told script (read_of (take (input_parts bytes).script bytes)) denoted is.denoted in
    sym is.answered
    ∙ ap (λ (s : ScriptData). checked_input s (lines bytes)) (sym same)
    ∙ accepted_run bytes told run (subst IsScript (sym same) is_script) denoted finished accepted

text_so : (bytes : List ℕ) (script : ScriptData) (run : List Logged) (text : List ℕ) → IsScript script → InputIs bytes script (Ok run) → IsReportOf (Some bytes) text
    → text ≡ waits_text script (waits_report script (world_after script run))
text_so bytes script run text is_script is h =
    h.told
    ∙ ap₂ (λ (s : ScriptData) (r : List Logged). waits_text s (waits_report s (world_after s r)))
    (same_script h.script script (read_of (take (input_parts bytes).script bytes)) h.denoted is.denoted)
    (same_run h.run run (Ok h.run) refl (sym (run_so bytes script (Ok run) h.script h.run is_script is h.denoted h.accepted h.finished)))

done_of : (c : PlainCall Answer) (bytes : List ℕ) → ReadsPlain IsReportCall outcome_of bytes c → c.answer ≡ Done
    → (text : List ℕ) × IsReportOf (Some bytes) text × Appends c.sink.held c.sink_after.held text
done_of c bytes reads e =
    let done = reads.serves.done (ap outcome_of e) in
    (done.0, subst (λ (left : Option (List ℕ)). IsReportOf left done.0) reads.input done.1, done.2)

reports : (bytes : List ℕ) (script : ScriptData) (run : List Logged) (text : List ℕ) → IsScript script → InputIs bytes script (Ok run)
    → waits_text script (waits_report script (world_after script run)) ≡ text → Reports bytes text
reports bytes script run text is_script is told c old new h held =
    let done = done_of c bytes h.0 h.1 in
    appended c.sink.held c.sink_after.held old new done.0 held.0 held.1 done.2
    ∙ ap (λ (t : List ℕ). old ++ t) (text_so bytes script run done.0 is_script is done.1 ∙ told)

-- why an input is refused
unfit_in : (c : PlainCall Answer) (bytes : List ℕ) (answer : Answer) → ReadsPlain IsReportCall outcome_of bytes c → c.answer ≡ answer
    → IsRefused (outcome_of answer) → IsUnfit (Some bytes) answer
unfit_in c bytes answer reads e is =
    subst (λ (a : Answer). IsUnfit (Some bytes) a) e
    (subst (λ (left : Option (List ℕ)). IsUnfit left c.answer) reads.input
    (reads.serves.refused (subst (λ (a : Answer). IsRefused (outcome_of a)) (sym e) is)))

pub bad_so : (bytes : List ℕ) (script : ScriptData) (answer : Result (List Logged) ℕ) (line : ℕ) → InputIs bytes script answer
    → IsBad (Some bytes) line → answer ≡ Err line
bad_so bytes script answer line is bad =
    sym is.answered
    ∙ ap (λ (s : ScriptData). checked_input s (lines bytes)) (same_script script bad.0 (read_of (take (input_parts bytes).script bytes)) is.denoted bad.2)
    ∙ refused_line bytes bad.0 line bad.1 bad.2 bad.3

pub reports_told : ReportsTold
reports_told = record {
  ends_text = reports writers_apart apart_script writer_moves writers_report apart_is_script apart_is apart_text;
  cycle_text = reports both_change change_script change_moves (codes "waits a b\nwaits b a\ncycle a b\n") change_is_script change_is change_text;
  void_text = void_is_told;
  part = λ c old new h held.
      let fault = h.0.serves.write_fault (ap outcome_of h.1) in
      let report = subst (λ (left : Option (List ℕ)). IsReportOf left fault.0) h.0.input fault.1 in
      part_so c.sink.held c.sink_after.held old new writers_report held.0 held.1
      (subst (λ (t : List ℕ). AppendsPart c.sink.held c.sink_after.held t) (text_so writers_apart apart_script writer_moves fault.0 apart_is_script apart_is report ∙ apart_text) fault.2);
  bad = λ c line h.
      same_line line 9 (Err line) refl (sym (bad_so wrong_grant apart_script (Err 9) line wrong_is (unfit_in c wrong_grant (BadJournal line) h.0 h.1 tt)));
  never_bad = λ c line h.
      run_or_line writer_moves line (Ok writer_moves) refl (bad_so writers_apart apart_script (Ok writer_moves) line apart_is (unfit_in c writers_apart (BadJournal line) h.0 h.1 tt));
  never_done = λ c h.
      let done = done_of c wrong_grant h.0 h.1 in
      run_or_line done.1.run 9 (Ok done.1.run) refl (sym (run_so wrong_grant apart_script (Err 9) done.1.script done.1.run apart_is_script wrong_is done.1.denoted done.1.accepted done.1.finished));
  fault = λ c fault h. same_fault fault no_nodes_fault (read_of (take (input_parts []).script [])) (unfit_in c [] (Refused fault) h.0 h.1 tt) nothing_read;
  never_refused = λ c fault h.
      script_or_fault apart_script fault (read_of (take (input_parts writers_apart).script writers_apart)) apart_is.denoted
      (unfit_in c writers_apart (Refused fault) h.0 h.1 tt);
  unknown = λ c old new serves e held.
      let done = serves.done (ap outcome_of e) in
      let r = done.1 in (
        r.script,
        r.run,
        record {
          is_run = r.finished.is_run;
          at_rest = r.finished.at_rest;
          told = appended c.sink.held c.sink_after.held old new done.0 held.0 held.1 done.2 ∙ ap (λ (t : List ℕ). old ++ t) r.told;
          tells = record {
            some = r.explained.some;
            cycles = r.explained.cycles;
            rings = r.explained.rings;
            ends = r.explained.ends;
            all = r.explained.all;
            voids = r.explained.voids;
            unmarked = λ unmarked.
                let plain = r.explained.unmarked unmarked in
                record { some = plain.some; ends = plain.ends; all = plain.all; no_void = plain.no_void };
            old = λ older.
                let plain = r.explained.old older in
                record { some = plain.some; ends = plain.ends; all = plain.all; no_void = plain.no_void };
          };
        },
      );
}

pub none_refused : (answer : Answer) → IsRefused (outcome_of answer) → IsUnfit (Some writers_apart) answer → ⊥
none_refused (Refused fault) is h =
    script_or_fault apart_script fault (read_of (take (input_parts writers_apart).script writers_apart)) apart_is.denoted h
none_refused (BadJournal line) is h = run_or_line writer_moves line (Ok writer_moves) refl (bad_so writers_apart apart_script (Ok writer_moves) line apart_is h)
none_refused Done is h = h
none_refused Usage is h = h
none_refused TooLong is h = h
none_refused ReadFault is h = h
none_refused WriteFault is h = h
none_refused NoMemory is h = h

pub report_plainly_told : PlainlyTold IsReportCall outcome_of 67108864 writers_apart
report_plainly_told = plainly_told outcome_of IsReportOf IsUnfit WantsMemory 67108864 writers_apart refl none_refused (λ before after wants. inl wants.came)
