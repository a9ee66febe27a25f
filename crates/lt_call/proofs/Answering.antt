-- What an answer says once the text is written, and where nothing is to be written.
use Rattle.std.proofs.Common.{◌≡◌, ◌<◌, ◌≤◌, ◌+◌, ℕ, List, Option, IfSome, length, refl, sym, subst, arith, inl, inr, ◌⊎◌, ◌≢◌}
use Rattle.std.specs.Io.KnownBytes.{Appends}
use Rattle.lt_io.specs.Streams.{CountsFaults, RoseBy, count_after, SourceState, AppendsPart, Pace, WritesByFewest, StopsByFewest, IsReadWhole}
use Rattle.lt_call.specs.declared.outcome.Outcome.{Outcome}
use Rattle.lt_call.specs.declared.outcome.Outcome.TheVariants.{Done, Usage, Refused, TooLong, Stuck, ReadFault, WriteFault, NoMemory, Cut, BadJournal, Share}
use Rattle.lt_call.specs.Outcomes.{IsEnding, IsRefused, IsRefusal, WritesNothing, SaysOfSource, SaysOfSink}
use Rattle.lt_call.specs.Calls.{Serves}

at_least : (a b : ℕ) → b ≡ a → a ≤ b
at_least a b e = omega (arith, e)

pub rose : (n before now : ℕ) → CountsFaults n before now → RoseBy n before now
rose n before now h = at_least (count_after before n) now h.count

-- the writing has begun
abbrev pub HasWritten : Outcome → Type 0
HasWritten outcome = IsEnding outcome ⊎ (outcome ≡ WriteFault)

never_written : (outcome : Outcome) → HasWritten outcome → WritesNothing outcome → ⊥
never_written Done h nothing = nothing
never_written Stuck h nothing = nothing
never_written Cut h nothing = nothing
never_written WriteFault h nothing = nothing
never_written Usage (inl h) nothing = h
never_written Usage (inr e) nothing = cc
never_written Refused (inl h) nothing = h
never_written Refused (inr e) nothing = cc
never_written TooLong (inl h) nothing = h
never_written TooLong (inr e) nothing = cc
never_written ReadFault (inl h) nothing = h
never_written ReadFault (inr e) nothing = cc
never_written NoMemory (inl h) nothing = h
never_written NoMemory (inr e) nothing = cc
never_written BadJournal (inl h) nothing = h
never_written BadJournal (inr e) nothing = cc
never_written Share (inl h) nothing = h
never_written Share (inr e) nothing = cc

-- so the outcome is none that comes before
pub is_other : (outcome other : Outcome) → HasWritten outcome → WritesNothing other → outcome ≡ other → ⊥
is_other outcome other written nothing e = never_written outcome written (subst WritesNothing (sym e) nothing)

refused_nothing : (outcome : Outcome) → IsRefused outcome → WritesNothing outcome
refused_nothing Refused h = tt
refused_nothing BadJournal h = tt
refused_nothing Share h = tt
refused_nothing Done h = h
refused_nothing Usage h = tt
refused_nothing TooLong h = tt
refused_nothing Stuck h = h
refused_nothing ReadFault h = tt
refused_nothing WriteFault h = h
refused_nothing NoMemory h = tt
refused_nothing Cut h = h

-- once the writing has begun, all was read
pub written_reading : (limit : ℕ) (outcome : Outcome) (before after : SourceState) → IsReadWhole limit before after → HasWritten outcome
    → SaysOfSource limit outcome before after
written_reading limit outcome before after whole h = record {
  too_long = λ e. absurd (is_other outcome TooLong h tt e);
  not_too_long = λ other. whole.few;
  too_many_left = λ e. absurd (is_other outcome TooLong h tt e);
  read_fault = λ e. absurd (is_other outcome ReadFault h tt e);
  no_read_fault = λ other. whole.without_fault;
  whole = λ read. whole.ended;
  used_up = λ read. whole.at_end;
}

-- a read failed
pub failed_reading : (limit : ℕ) (before after : SourceState) → CountsFaults 1 before.faults after.faults → after.given ≤ before.given + limit
    → SaysOfSource limit ReadFault before after
failed_reading limit before after failed few = record {
  too_long = λ e. absurd (cc e);
  not_too_long = λ other. few;
  too_many_left = λ e. absurd (cc e);
  read_fault = λ e. failed;
  no_read_fault = λ other. absurd (other refl);
  whole = λ read. absurd read;
  used_up = λ read. absurd read;
}

-- it gave one byte too many
pub long_reading : (limit : ℕ) (before after : SourceState) → CountsFaults (limit + 1) before.given after.given → after.faults ≡ before.faults
    → IfSome before.left (λ bytes. limit < length bytes) → SaysOfSource limit TooLong before after
long_reading limit before after long sound many = record {
  too_long = λ e. long;
  not_too_long = λ other. absurd (other refl);
  too_many_left = λ e. many;
  read_fault = λ e. absurd (cc e);
  no_read_fault = λ other. sound;
  whole = λ read. absurd read;
  used_up = λ read. absurd read;
}

-- memory ran out
pub memory_reading : (limit : ℕ) (before after : SourceState) → after.given ≤ before.given + limit → after.faults ≡ before.faults
    → SaysOfSource limit NoMemory before after
memory_reading limit before after few sound = record {
  too_long = λ e. absurd (cc e);
  not_too_long = λ other. few;
  too_many_left = λ e. absurd (cc e);
  read_fault = λ e. absurd (cc e);
  no_read_fault = λ other. sound;
  whole = λ read. absurd read;
  used_up = λ read. absurd read;
}

-- what was read is refused
pub refused_reading : (limit : ℕ) (outcome : Outcome) (before after : SourceState) → IsReadWhole limit before after → IsRefused outcome
    → SaysOfSource limit outcome before after
refused_reading limit outcome before after whole h = record {
  too_long = λ e. absurd (subst IsRefused e h);
  not_too_long = λ other. whole.few;
  too_many_left = λ e. absurd (subst IsRefused e h);
  read_fault = λ e. absurd (subst IsRefused e h);
  no_read_fault = λ other. whole.without_fault;
  whole = λ read. whole.ended;
  used_up = λ read. whole.at_end;
}

pub written_serves : {A S K : Type 0} (outcome : A → Outcome) (makes : Option (List ℕ) → List ℕ → Type 0) (refuses : Option (List ℕ) → A → Type 0) (wants : SourceState → SourceState → Type 0) (limit : ℕ)
    (state : S → SourceState) (held : K → Option (List ℕ)) (write_faults : K → ℕ) (pace : K → Option Pace) (words : ℕ) (answer : A) (text : List ℕ)
    (before after : S) (sink sink_after : K) → words ≡ 0 → (outcome answer ≡ Done) ⊎ (outcome answer ≡ WriteFault)
    → makes (state before).left text → IsReadWhole limit (state before) (state after)
    → (outcome answer ≡ Done → Appends (held sink) (held sink_after) text) → (outcome answer ≡ WriteFault → AppendsPart (held sink) (held sink_after) text)
    → (outcome answer ≡ Done → WritesByFewest (pace sink) (pace sink_after) (length text))
    → (outcome answer ≡ WriteFault → StopsByFewest (pace sink) (pace sink_after) (held sink) (held sink_after) text)
    → SaysOfSink (outcome answer) (write_faults sink) (write_faults sink_after)
    → Serves outcome makes refuses wants limit state held write_faults pace words answer before after sink sink_after
written_serves outcome makes refuses wants limit state held write_faults pace words answer text before after sink sink_after none told is whole all part few few_failed writing =
    let written : HasWritten (outcome answer) = elim told [ inl e ↦ inl (subst IsEnding (sym e) tt) | inr e ↦ inr e ] in
    record {
      done = λ e. (text, is, all e, few e);
      write_fault = λ e. (text, is, part e, few_failed e);
      unwritten = λ nothing. absurd (never_written (outcome answer) written nothing);
      usage = λ e. absurd (is_other (outcome answer) Usage written tt e);
      no_words = λ some. absurd (omega (arith, none, some));
      unread = λ e. absurd (is_other (outcome answer) Usage written tt e);
      refused = λ h. absurd (never_written (outcome answer) written (refused_nothing (outcome answer) h));
      memory = λ e. absurd (is_other (outcome answer) NoMemory written tt e);
      reading = λ other. written_reading limit (outcome answer) (state before) (state after) whole written;
      writing = writing;
      complete = λ no_word good writes other. elim told [
        | inl e ↦ e
        | inr e ↦ absurd (writes (rose 1 (write_faults sink) (write_faults sink_after) (writing.write_fault e)))
      ];
    }

-- an outcome that comes where nothing is to be written is none of the others
is_refused : (reason : Type 0) (outcome : Outcome) → IsRefusal reason outcome → IsRefused outcome → reason
is_refused reason Refused h k = h
is_refused reason BadJournal h k = h
is_refused reason Share h k = h
is_refused reason Done h k = absurd k
is_refused reason Usage h k = absurd k
is_refused reason TooLong h k = absurd k
is_refused reason Stuck h k = absurd k
is_refused reason ReadFault h k = absurd k
is_refused reason WriteFault h k = absurd k
is_refused reason NoMemory h k = absurd k
is_refused reason Cut h k = absurd k

-- each such outcome has its cause
pub refusal_complete : (reason : Type 0) (limit : ℕ) (outcome : Outcome) (before after : SourceState) → IsRefusal reason outcome → SaysOfSource limit outcome before after
    → (RoseBy 1 before.faults after.faults → ⊥) → (RoseBy (limit + 1) before.given after.given → ⊥) → (IsRefused outcome → reason → ⊥) → outcome ≢ NoMemory → ⊥
refusal_complete reason limit Refused before after h says reads few fits memory = fits tt h
refusal_complete reason limit BadJournal before after h says reads few fits memory = fits tt h
refusal_complete reason limit Share before after h says reads few fits memory = fits tt h
refusal_complete reason limit TooLong before after h says reads few fits memory = few (rose (limit + 1) before.given after.given (says.too_long refl))
refusal_complete reason limit ReadFault before after h says reads few fits memory = reads (rose 1 before.faults after.faults (says.read_fault refl))
refusal_complete reason limit NoMemory before after h says reads few fits memory = memory refl
refusal_complete reason limit Done before after h says reads few fits memory = h
refusal_complete reason limit Usage before after h says reads few fits memory = h
refusal_complete reason limit Stuck before after h says reads few fits memory = h
refusal_complete reason limit WriteFault before after h says reads few fits memory = h
refusal_complete reason limit Cut before after h says reads few fits memory = h

pub refusal_serves : {A S K : Type 0} (outcome : A → Outcome) (makes : Option (List ℕ) → List ℕ → Type 0) (refuses : Option (List ℕ) → A → Type 0) (wants : SourceState → SourceState → Type 0) (limit : ℕ)
    (state : S → SourceState) (held : K → Option (List ℕ)) (write_faults : K → ℕ) (pace : K → Option Pace) (words : ℕ) (answer : A)
    (before after : S) (sink : K) → words ≡ 0 → IsRefusal (refuses (state before).left answer) (outcome answer)
    → SaysOfSource limit (outcome answer) (state before) (state after) → (outcome answer ≡ NoMemory → wants (state before) (state after))
    → Serves outcome makes refuses wants limit state held write_faults pace words answer before after sink sink
refusal_serves outcome makes refuses wants limit state held write_faults pace words answer before after sink none refusal reading memory =
    let reason = refuses (state before).left answer in
    record {
      done = λ e. absurd (subst (IsRefusal reason) e refusal);
      write_fault = λ e. absurd (subst (IsRefusal reason) e refusal);
      unwritten = λ nothing. refl;
      usage = λ e. absurd (subst (IsRefusal reason) e refusal);
      no_words = λ some. absurd (omega (arith, none, some));
      unread = λ e. absurd (subst (IsRefusal reason) e refusal);
      refused = λ h. is_refused reason (outcome answer) refusal h;
      memory = memory;
      reading = λ other. reading;
      writing = record {
        write_fault = λ e. absurd (subst (IsRefusal reason) e refusal);
        no_write_fault = λ other. refl;
      };
      complete = λ no_word good writes other. absurd (refusal_complete reason limit (outcome answer) (state before) (state after) refusal reading
          good.no_read_fault good.not_too_long (good.none_refused answer) other);
    }

pub usage_serves : {A S K : Type 0} (outcome : A → Outcome) (makes : Option (List ℕ) → List ℕ → Type 0) (refuses : Option (List ℕ) → A → Type 0) (wants : SourceState → SourceState → Type 0) (limit : ℕ)
    (state : S → SourceState) (held : K → Option (List ℕ)) (write_faults : K → ℕ) (pace : K → Option Pace) (words : ℕ) (answer : A) (source : S) (sink : K) → 0 < words → outcome answer ≡ Usage
    → Serves outcome makes refuses wants limit state held write_faults pace words answer source source sink sink
usage_serves outcome makes refuses wants limit state held write_faults pace words answer source sink some is = record {
  done = λ e. absurd (other Done (λ h. cc h) e);
  write_fault = λ e. absurd (other WriteFault (λ h. cc h) e);
  unwritten = λ nothing. refl;
  usage = λ e. some;
  no_words = λ h. is;
  unread = λ e. refl;
  refused = λ h. absurd (subst IsRefused is h);
  memory = λ e. absurd (other NoMemory (λ h. cc h) e);
  reading = λ other. absurd (other is);
  writing = record { write_fault = λ e. absurd (other WriteFault (λ h. cc h) e); no_write_fault = λ h. refl };
  complete = λ none good writes memory. absurd (omega (arith, none, some));
}
  where
    other : (that : Outcome) → (Usage ≡ that → ⊥) → outcome answer ≡ that → ⊥
    other that never e = never (subst (λ (o : Outcome). o ≡ that) is e)
