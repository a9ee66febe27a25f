-- The answers that come before a run, and the counts of source and sink.
use Rattle.std.proofs.Common.{◌≡◌, Err, Some, None, refl}
use Rattle.lt_script.specs.declared.fault.Fault.TheVariants as faults
use Rattle.lt_script.specs.Reading.{read_of}
use Rattle.lt_script.specs.Reading as reading
use Rattle.lt_text.specs.Text as text
use Rattle.lt_words.specs.declared.command.Command.TheVariants.{SimFirst}
use Rattle.lt_law_pinned.proofs.TwoWritersSay.{same_bytes, same_fault, script_or_fault, one_lock_read}
use Rattle.lt_law_pinned.specs.Examples.{one_lock}
use Rattle.lt_law_pinned.specs.OtherAnswers.{WordsSay, FaultSays, CountsSay, no_mode}

pub words_say : WordsSay
words_say = record {
  wrong = λ left answer h. h.usage.1 refl;
  right = λ left h. not_none (h.usage.0 refl);
  nothing = λ run old new t. (t.0, same_bytes new old t.1);
  no_command = λ answer run old new t. (t.0, same_bytes new old t.1);
}
  where
    not_none : Some SimFirst ≡ None → ⊥
    not_none e = cc

pub no_mode_read : read_of no_mode ≡ Err (record { line = 4; fault = faults.Mode })
unfolding reading.script_body reading.read_from text.lines text.cut_at reading.line_step text.words
no_mode_read = refl

pub fault_says : FaultSays
fault_says = record {
  fault = λ fault h. same_fault fault (record { line = 4; fault = faults.Mode }) (read_of no_mode) (h.refused fault refl).1 no_mode_read;
  never_done = λ run old new t. script_or_fault t.1.journals.script (record { line = 4; fault = faults.Mode }) (read_of no_mode) t.1.journals.denoted no_mode_read;
  never_stuck = λ run old new t. script_or_fault t.1.journals.script (record { line = 4; fault = faults.Mode }) (read_of no_mode) t.1.journals.denoted no_mode_read;
  never_cut = λ node run old new t. script_or_fault t.1.journals.script (record { line = 4; fault = faults.Mode }) (read_of no_mode) t.1.journals.denoted no_mode_read;
  nothing = λ fault run old new t. (t.0, same_bytes new old t.1);
  never_refused = λ fault h. script_or_fault _ fault (read_of one_lock) one_lock_read (h.refused fault refl).1;
}

pub counts_say : CountsSay
counts_say = record {
  done = λ left now t. (t.not_too_long (λ e. cc), t.no_read_fault (λ e. cc), (t.whole tt).count);
  checked = λ left now t. t.not_too_long (λ e. cc);
  refused = λ fault left now t. (t.no_read_fault (λ e. cc), (t.whole tt).count);
  too_long = λ left now t. ((t.too_long refl).count, t.no_read_fault (λ e. cc));
  read_fault = λ left now t. (t.not_too_long (λ e. cc), (t.read_fault refl).count);
  stuck = λ left now t. (t.whole tt).count;
  cut = λ left now t. (t.whole tt).count;
  unwritten = λ left now t. (t.whole tt).count;
  bad_journal = λ left now t. (t.whole tt).count;
  written = λ now t. t.no_write_fault (λ e. cc);
  write_fault = λ now t. (t.write_fault refl).count;
}
