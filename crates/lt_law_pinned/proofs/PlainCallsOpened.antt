-- Each field of what is said of the words, the source and the sink by a program that takes no words.
use Rattle.std.proofs.Common.{◌≡◌, ◌≢◌, ◌<◌, ◌≤◌, ◌+◌, ◌++◌, ℕ, List, Option, Some, refl, sym, ap, subst, arith, ◌∙◌, ◌⊎◌, inl, inr, take, codes, decimal}
use Rattle.lt_io.specs.Streams.{count_after, AppendsPart, CountsFaults, Rose, SourceState}
use Rattle.std.proofs.lemmas.Fmt.{decimal_digit}
use Rattle.std.specs.Io.KnownBytes.{Appends}
use Rattle.lt_call.specs.declared.outcome.Outcome.{Outcome}
use Rattle.lt_call.specs.declared.outcome.Outcome.TheVariants.{Done, Usage, Refused, TooLong, ReadFault, WriteFault, NoMemory, BadJournal}
use Rattle.lt_call.specs.Outcomes.{HasRead, IsRefused, WritesNothing, SaysOfSource}
use Rattle.lt_call.specs.Calls.{Serves}
use Rattle.lt_law_pinned.specs.PlainCalls.{SinkTells, PlainCall, EndsPlainly, EndsWhole, EndsUnwritten, PlainlyTold, IsPartWritten}

pub one_text : decimal 1 ≡ codes "1"
one_text = decimal_digit 1 (omega arith)

pub five_text : decimal 5 ≡ codes "5"
five_text = decimal_digit 5 (omega arith)

pub seven_text : decimal 7 ≡ codes "7"
seven_text = decimal_digit 7 (omega arith)

-- a count that began at 0
from_zero : (n before now : ℕ) → before ≡ 0 → now ≡ count_after before n → now ≡ count_after 0 n
from_zero n before now began e = e ∙ ap (λ (k : ℕ). count_after k n) began

-- a count that stands at 0 didn't rise
not_rose : (n before now most : ℕ) → before ≡ 0 → now ≤ most → most < count_after 0 n → count_after before n ≤ now → ⊥
not_rose n before now most began few less rose =
    let risen : count_after 0 n ≤ now = subst (λ (k : ℕ). count_after k n ≤ now) began rose in
    omega (arith, risen, few, less)

-- known bytes that were appended
pub appended : (held after : Option (List ℕ)) (old new text : List ℕ) → held ≡ Some old → after ≡ Some new → Appends held after text → new ≡ old ++ text
appended held after old new text was is h =
    subst (λ (o : Option (List ℕ)). Appends (Some old) o text) is (subst (λ (o : Option (List ℕ)). Appends o after text) was h)

-- known bytes of which a part was appended
pub part_so : (held after : Option (List ℕ)) (old new text : List ℕ) → held ≡ Some old → after ≡ Some new → AppendsPart held after text
    → IsPartWritten text old new
part_so held after old new text was is h = record { size = h.0; less = h.1; part = appended held after old new (take h.0 text) was is h.2 }

not_long : NoMemory ≡ TooLong → ⊥
not_long e = cc

not_failed : NoMemory ≡ ReadFault → ⊥
not_failed e = cc

not_write : Done ≡ WriteFault → ⊥
not_write e = cc

module _ {A : Type 0} (outcome : A → Outcome) (makes : Option (List ℕ) → List ℕ → Type 0) (refuses : Option (List ℕ) → A → Type 0) (wants : SourceState → SourceState → Type 0) (limit : ℕ) where
  -- the call is one of this program
  abbrev pub IsPlain : PlainCall A → Type 0
  IsPlain c =
      Serves outcome makes refuses wants limit (λ (s : SourceState). s) (λ (k : SinkTells). k.held) (λ (k : SinkTells). k.faults) (λ (k : SinkTells). k.pace)
      c.words c.answer c.source c.source_after c.sink c.sink_after

  not_usage : (c : PlainCall A) → IsPlain c → c.words ≡ 0 → outcome c.answer ≢ Usage
  not_usage c serves none e = let some = serves.usage e in omega (arith, some, none)

  says_of : (c : PlainCall A) (end : Outcome) → EndsPlainly IsPlain outcome end c → SaysOfSource limit end c.source c.source_after
  says_of c end h =
      subst (λ (o : Outcome). SaysOfSource limit o c.source c.source_after) h.end_is (h.serves.reading (not_usage c h.serves h.no_words))

  whole : (end : Outcome) → HasRead end → EndsWhole IsPlain outcome end
  whole end read c h = from_zero 1 c.source.ends c.source_after.ends h.counts.2 ((says_of c end h).whole read).count

  leaves : (end : Outcome) → WritesNothing end → EndsUnwritten IsPlain outcome end
  leaves end nothing c h = h.serves.unwritten (subst (λ (o : Outcome). WritesNothing o) (sym h.end_is) nothing)

  pub plainly_told : (good : List ℕ) → count_after 0 (limit + 1) ≡ limit + 1 → ((answer : A) → IsRefused (outcome answer) → refuses (Some good) answer → ⊥)
      → ((before after : SourceState) → wants before after → Rose before.given after.given ⊎ CountsFaults 1 before.ends after.ends)
      → PlainlyTold IsPlain outcome limit good
  plainly_told good fits fine came = record {
    usage = usage;
    unread = λ c serves one. serves.unread (usage c serves one);
    unwritten = λ c serves one. serves.unwritten (subst (λ (o : Outcome). WritesNothing o) (sym (usage c serves one)) tt);
    no_usage = not_usage;
    too_long = λ c h. from_zero (limit + 1) c.source.given c.source_after.given h.counts.0 ((says_of c TooLong h).too_long refl).count ∙ fits;
    not_too_long = λ c h. omega (arith, h.counts.0, (says_of c NoMemory h).not_too_long (λ e. absurd (not_long e)));
    memory = λ c h. elim (came c.source c.source_after (h.serves.memory h.end_is)) [
      | inl rose ↦ inl (omega (arith, rose, h.counts.0))
      | inr ended ↦ inr (from_zero 1 c.source.ends c.source_after.ends h.counts.2 ended.count)
    ];
    read_fault = λ c h. from_zero 1 c.source.faults c.source_after.faults h.counts.1 ((says_of c ReadFault h).read_fault refl).count;
    no_read_fault = λ c h. (says_of c NoMemory h).no_read_fault (λ e. absurd (not_failed e)) ∙ h.counts.1;
    write_fault = λ c h. from_zero 1 c.sink.faults c.sink_after.faults h.writes (h.serves.writing.write_fault h.end_is).count;
    no_write_fault = λ c h. h.serves.writing.no_write_fault (λ e. absurd (not_write (sym h.end_is ∙ e))) ∙ h.writes;
    whole_done = whole Done tt;
    whole_write = whole WriteFault tt;
    whole_refused = whole Refused tt;
    whole_journal = whole BadJournal tt;
    none_refused = leaves Refused tt;
    none_journal = leaves BadJournal tt;
    none_too_long = leaves TooLong tt;
    none_read = leaves ReadFault tt;
    none_memory = leaves NoMemory tt;
    complete = λ c reads calm.
        reads.serves.complete reads.no_words
        (record {
          no_read_fault = not_rose 1 c.source.faults c.source_after.faults 0 calm.counts.1 (omega (arith, calm.read)) (omega arith);
          not_too_long = not_rose (limit + 1) c.source.given c.source_after.given limit calm.counts.0 calm.given (omega (arith, fits));
          none_refused = λ answer is h. fine answer is (subst (λ (left : Option (List ℕ)). refuses left answer) reads.input h);
        })
        (not_rose 1 c.sink.faults c.sink_after.faults 0 calm.written.0 (omega (arith, calm.written.1)) (omega arith))
        calm.memory;
  }
    where
      usage : (c : PlainCall A) → IsPlain c → c.words ≡ 1 → outcome c.answer ≡ Usage
      usage c serves one = serves.no_words (omega (arith, one))
