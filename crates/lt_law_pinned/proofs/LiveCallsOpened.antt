-- Each field of what is said of the words, the source, the sink and the end of a live run.
use Rattle.std.proofs.Common.{◌≡◌, ◌≢◌, ◌<◌, ◌≤◌, ◌+◌, ◌++◌, ℕ, zero, suc, List, [], Ok, Err, Option, Some, false, true, refl, sym, ap, ap₂, subst, arith, ◌∙◌, length, codes}
use Rattle.std.proofs.lemmas.Bool.{false≢true}
use Rattle.lt_modes.specs.Script.{ScriptData}
use Rattle.lt_text.specs.Text as text
use Rattle.lt_io.specs.Streams.{count_after}
use Rattle.lt_call.specs.declared.outcome.Outcome.TheVariants as outcome
use Rattle.lt_call.specs.Outcomes.{HasRead, WritesNothing, SaysOfSource}
use Rattle.lt_script.specs.declared.fault.ScriptFault.{ScriptFault}
use Rattle.lt_script.specs.Reading.{read_of}
use Rattle.lt_script.specs.Reading as reading
use Rattle.lt_spec.specs.Ordered.{IsOrdered}
use Rattle.lt_spec.specs.declared.ending.Ending.{Ending}
use Rattle.lt_spec.specs.declared.ending.Ending.TheVariants as ending
use Rattle.lt_spec.specs.World.{Logged}
use Rattle.lt_live.specs.declared.reply.Reply.{Reply}
use Rattle.lt_live_serve.specs.declared.limits.TheConstants.{MAX_INPUT}
use Rattle.lt_live_serve.specs.declared.status.Status.{Status}
use Rattle.lt_live_serve.specs.declared.status.Status.TheVariants.{Done, Stuck, Usage, Refused, TooLong, ReadFault, WriteFault, NoMemory, Share}
use Rattle.lt_live_serve.specs.Serves.{is_over, IsOverShare, LiveRun, Journals, Did, GoesWell}
use Rattle.lt_call.specs.Scripts.{HasFault, DenotesOrdered}
use Rattle.lt_live_serve.specs.Status.{outcome_of}
use Rattle.lt_law_pinned.specs.Told.{two_writers, two_writers_script}
use Rattle.lt_law_pinned.specs.LiveCalls.{LiveCodesAre, LiveTextsAre, LiveCall, IsCall, Answers, ReadsBytes, IsUntroubled, ReadsWhole, LiveWordsTold, LiveRefusalsTold, LiveCountsTold, LiveEndsTold, no_nodes, one_lock, one_lock_script}
use Rattle.lt_law_pinned.proofs.Numbers.{one_text, three_text, five_text, seven_text}
use Rattle.lt_law_pinned.proofs.TwoWritersSay.{same_script}
use Rattle.lt_law_pinned.proofs.LimitsOpened.{writers_read}

pub live_codes_are : LiveCodesAre
live_codes_are = record {
  done = refl;
  usage = refl;
  refused = refl;
  too_long = refl;
  stuck = refl;
  read_fault = refl;
  write_fault = refl;
  no_memory = refl;
  cut = refl;
  share = refl;
  input = refl;
}

pub live_texts_are : LiveTextsAre
live_texts_are = record {
  done = refl;
  stuck = refl;
  usage = refl;
  refused = ap₂ (λ (line number : List ℕ). codes "locklive: " ++ (codes "line " ++ line ++ codes ": S" ++ number)) one_text five_text;
  too_long = refl;
  read_fault = refl;
  write_fault = refl;
  no_memory = refl;
  cut = ap (λ (digits : List ℕ). codes "locklive: cut at node " ++ digits) seven_text;
  share = ap (λ (digits : List ℕ). codes "locklive: too many commands of client " ++ digits) three_text;
}

-- the answer is Usage only to a word
not_usage : (c : LiveCall) → IsCall c → c.words ≡ 0 → c.answer.status ≢ Usage
not_usage c serves none e = let some = serves.usage e in omega (arith, some, none)

-- what the answer did, with its status in its place
pub did_so : (c : LiveCall) (status : Status) → IsCall c → c.answer.status ≡ status
    → Did status c.source.left c.answer.run.entries c.answer.polled.items c.sink.held c.sink_after.held
did_so c status serves e =
    subst (λ (s : Status). Did s c.source.left c.answer.run.entries c.answer.polled.items c.sink.held c.sink_after.held) e serves.did

-- and with the bytes that were read
pub did_read : (c : LiveCall) (bytes : List ℕ) (status : Status) → ReadsBytes bytes c → c.answer.status ≡ status
    → Did status (Some bytes) c.answer.run.entries c.answer.polled.items c.sink.held c.sink_after.held
did_read c bytes status reads e =
    subst (λ (left : Option (List ℕ)). Did status left c.answer.run.entries c.answer.polled.items c.sink.held c.sink_after.held) reads.input
    (did_so c status reads.serves e)

-- a run of what the bytes denote is one of the script
pub live_so : (end : Ending) (bytes : List ℕ) (script : ScriptData) (run : List Logged) (polled : List (ℕ × Reply)) (text : List ℕ)
    → read_of bytes ≡ Ok script → Journals end (Some bytes) run polled text → LiveRun end script run polled
live_so end bytes script run polled text read j =
    subst (λ (s : ScriptData). LiveRun end s run polled) (same_script j.script script (read_of bytes) j.denoted read) j.live

pub one_lock_read : read_of one_lock ≡ Ok one_lock_script
unfolding reading.script_body reading.read_from text.lines text.cut_at reading.line_step text.words
one_lock_read = refl

one_lock_ordered : IsOrdered one_lock_script
one_lock_ordered zero below = refl
one_lock_ordered (suc n) below = absurd (omega (arith, below))

not_read : (bytes : List ℕ) (script : ScriptData) (fault : ScriptFault) → read_of bytes ≡ Ok script → read_of bytes ≡ Err fault → ⊥
not_read bytes script fault e f = cc

fault_of_nothing : read_of [] ≡ Err no_nodes
unfolding reading.script_body reading.read_from text.lines text.cut_at reading.line_step text.words
fault_of_nothing = refl

same_fault : (bytes : List ℕ) (a b : ScriptFault) → read_of bytes ≡ Err a → read_of bytes ≡ Err b → a ≡ b
same_fault bytes a b e f = cc

-- in these two scripts no client has more than its share
pub two_fit : (client : ℕ) → client < 2 → is_over two_writers_script client ≡ false
two_fit zero below = refl
two_fit (suc zero) below = refl
two_fit (suc (suc n)) below = absurd (omega (arith, below))

one_fits : (client : ℕ) → client < 1 → is_over one_lock_script client ≡ false
one_fits zero below = refl
one_fits (suc n) below = absurd (omega (arith, below))

-- the bytes denote this script, in which no client has more than its share
pub record Fits (bytes : List ℕ) (script : ScriptData) : Type 0 where
  pub read : read_of bytes ≡ Ok script
  pub fit : (client : ℕ) → client < length script.clients → is_over script client ≡ false

not_over : (bytes : List ℕ) (script : ScriptData) → Fits bytes script → (client : ℕ) → IsOverShare (Some bytes) client → ⊥
not_over bytes script fits client over =
    let same = same_script over.0 script (read_of bytes) over.1 fits.read in
    let first = over.2 in
    let below : client < length script.clients = subst (λ (s : ScriptData). client < length s.clients) same first.0 in
    let many : is_over script client ≡ true = subst (λ (s : ScriptData). is_over s client ≡ true) same first.1 in
    false≢true (sym (fits.fit client below) ∙ many)

two_writers_fit : Fits two_writers two_writers_script
two_writers_fit = record { read = writers_read; fit = two_fit }

one_lock_fits : Fits one_lock one_lock_script
one_lock_fits = record { read = one_lock_read; fit = one_fits }

-- it writes nothing, with its status in its place
leaves : (c : LiveCall) (status : Status) → c.answer.status ≡ status → WritesNothing (outcome_of status) → WritesNothing (outcome_of c.answer.status)
leaves c status e nothing = subst (λ (s : Status). WritesNothing (outcome_of s)) (sym e) nothing

pub live_words_told : LiveWordsTold
live_words_told = record {
  usage = usage;
  unread = λ c serves one. serves.unread (usage c serves one);
  unwritten = λ c serves one. serves.unwritten (leaves c Usage (usage c serves one) tt);
  no_run = λ c serves one. let did = did_so c Usage serves (usage c serves one) in (did.0, did.1);
  no_usage = not_usage;
}
  where
    usage : (c : LiveCall) → IsCall c → c.words ≡ 1 → c.answer.status ≡ Usage
    usage c serves one = serves.no_words (omega (arith, one))

pub live_refusals_told : LiveRefusalsTold
live_refusals_told = record {
  fault = λ c fault reads e. same_fault [] fault no_nodes (fault_in c [] fault reads e) fault_of_nothing;
  no_fault = λ c fault reads e. not_read two_writers two_writers_script fault writers_read (fault_in c two_writers fault reads e);
  no_share = λ c client reads e.
      not_over two_writers two_writers_script two_writers_fit client
      (subst (λ (left : Option (List ℕ)). IsOverShare left client) reads.input (reads.serves.share client e));
  no_run = λ c h. let did = did_so c (Share 3) h.serves h.status_is in (did.0, did.1);
  unwritten = λ c h. h.serves.unwritten (leaves c _ h.status_is tt);
  unwritten_fault = λ c h. h.serves.unwritten (leaves c _ h.status_is tt);
  unwritten_memory = λ c h. h.serves.unwritten (leaves c _ h.status_is tt);
}
  where
    fault_in : (c : LiveCall) (bytes : List ℕ) (fault : ScriptFault) → ReadsBytes bytes c → c.answer.status ≡ Refused fault → read_of bytes ≡ Err fault
    fault_in c bytes fault reads e = subst (λ (left : Option (List ℕ)). HasFault left fault) reads.input (reads.serves.refused fault e)

says_of : (c : LiveCall) (status : Status) → Answers status c → SaysOfSource MAX_INPUT (outcome_of status) c.source c.source_after
says_of c status h =
    subst (λ (s : Status). SaysOfSource MAX_INPUT (outcome_of s) c.source c.source_after) h.status_is (h.serves.reading (not_usage c h.serves h.no_words))

-- a count that began at 0
from_zero : (n before now : ℕ) → before ≡ 0 → now ≡ count_after before n → now ≡ count_after 0 n
from_zero n before now began e = e ∙ ap (λ (k : ℕ). count_after k n) began

whole : (status : Status) → HasRead (outcome_of status) → ReadsWhole status
whole status read c h = from_zero 1 c.source.ends c.source_after.ends h.counts.2 ((says_of c status h).whole read).count

not_long : outcome.NoMemory ≡ outcome.TooLong → ⊥
not_long e = cc

not_failed : outcome.NoMemory ≡ outcome.ReadFault → ⊥
not_failed e = cc

not_write : outcome.Done ≡ outcome.WriteFault → ⊥
not_write e = cc

pub live_counts_told : LiveCountsTold
live_counts_told = record {
  too_long = λ c h. from_zero (MAX_INPUT + 1) c.source.given c.source_after.given h.counts.0 ((says_of c TooLong h).too_long refl).count;
  not_too_long = λ c h.
      subst (λ (n : ℕ). c.source_after.given ≤ n + MAX_INPUT) h.counts.0 ((says_of c NoMemory h).not_too_long (λ e. absurd (not_long e)));
  memory = λ c h. let rose = h.serves.memory h.status_is in omega (arith, rose, h.counts.0);
  read_fault = λ c h. from_zero 1 c.source.faults c.source_after.faults h.counts.1 ((says_of c ReadFault h).read_fault refl).count;
  no_read_fault = λ c h. (says_of c NoMemory h).no_read_fault (λ e. absurd (not_failed e)) ∙ h.counts.1;
  whole_done = whole Done tt;
  whole_stuck = whole Stuck tt;
  whole_write = whole WriteFault tt;
  whole_fault = whole (Refused no_nodes) tt;
  whole_share = whole (Share 3) tt;
  write_fault = λ c h. from_zero 1 c.sink.faults c.sink_after.faults h.writes (h.serves.writing.write_fault (ap outcome_of h.status_is)).count;
  no_write_fault = λ c h. h.serves.writing.no_write_fault (λ e. absurd (not_write (sym (ap outcome_of h.status_is) ∙ e))) ∙ h.writes;
}

-- a count that stands at 0 didn't rise
not_rose : (n before now most : ℕ) → before ≡ 0 → now ≤ most → most < count_after 0 n → count_after before n ≤ now → ⊥
not_rose n before now most began few less rose =
    let risen : count_after 0 n ≤ now = subst (λ (k : ℕ). count_after k n ≤ now) began rose in
    omega (arith, risen, few, less)

pub goes_well : (c : LiveCall) (bytes : List ℕ) (script : ScriptData) → Fits bytes script → ReadsBytes bytes c → IsUntroubled c
    → GoesWell c.words c.answer.status c.source c.source_after c.sink.faults c.sink_after.faults
goes_well c bytes script fits reads fine = record {
  no_words = reads.no_words;
  good = record {
    no_read_fault = not_rose 1 c.source.faults c.source_after.faults 0 fine.counts.1 (omega (arith, fine.read)) (omega arith);
    not_too_long = not_rose (MAX_INPUT + 1) c.source.given c.source_after.given 1048576 fine.counts.0 fine.given (omega arith);
    no_fault = λ fault h. not_read bytes script fault fits.read (subst (λ (left : Option (List ℕ)). HasFault left fault) reads.input h);
    none_over = λ client h. not_over bytes script fits client (subst (λ (left : Option (List ℕ)). IsOverShare left client) reads.input h);
  };
  no_write_fault = not_rose 1 c.sink.faults c.sink_after.faults 0 fine.written.0 (omega (arith, fine.written.1)) (omega arith);
  memory = fine.memory;
}

pub live_ends_told : LiveEndsTold
live_ends_told = record {
  never_cut = λ c node serves. serves.ends.never_cut node;
  done_or_stuck = λ c reads fine. reads.serves.ends.done_or_stuck (goes_well c two_writers two_writers_script two_writers_fit reads fine);
  ordered = λ c reads fine.
      reads.serves.ends.ordered (goes_well c one_lock one_lock_script one_lock_fits reads fine)
      (subst DenotesOrdered (sym reads.input) (one_lock_script, one_lock_read, one_lock_ordered));
  never_stuck = λ c reads e.
      let did = did_read c one_lock Stuck reads e in
      (live_so ending.Stuck one_lock one_lock_script c.answer.run.entries c.answer.polled.items did.0 one_lock_read did.1).ordered one_lock_ordered refl;
}
