-- What an answer says: once the journal is written, where there is no run, and where there is a word.
use Rattle.std.proofs.Common.{◌≡◌, ◌∙◌, ◌≢◌, ◌<◌, ◌+◌, ◌⊎◌, ℕ, List, Option, Some, None, Ok, [], refl, sym, ap, subst, arith, inl, inr}
use Rattle.lt_io.specs.Streams.{Rose, SourceState, Pace, IsReadWhole}
use Rattle.lt_call.specs.declared.outcome.Outcome.TheVariants as outcome
use Rattle.lt_call.specs.Outcomes.{IsEnding, IsRefusal, WritesNothing, SaysOfSource, SaysOfSink}
use Rattle.lt_call.proofs.Answering.{HasWritten, is_other, rose, written_reading}
use Rattle.lt_modes.specs.Script.{ScriptData}
use Rattle.lt_spec.specs.declared.ending.Ending.{Ending}
use Rattle.lt_spec.specs.declared.ending.Ending.TheVariants as ending
use Rattle.lt_script.specs.Reading.{read_of}
use Rattle.lt_spec.specs.Ordered.{IsOrdered}
use Rattle.lt_spec.specs.World.{Logged}
use Rattle.lt_live.specs.declared.reply.Reply.{Reply}
use Rattle.lt_live_serve.specs.declared.limits.TheConstants.{MAX_INPUT}
use Rattle.lt_live_serve.specs.declared.served.Served.{Served}
use Rattle.lt_live_serve.specs.declared.status.Status.{Status}
use Rattle.lt_live_serve.specs.declared.status.Status.TheVariants.{Done, Stuck, Usage, Refused, TooLong, ReadFault, WriteFault, NoMemory, Cut, Share}
use Rattle.lt_live_serve.specs.Status.{outcome_of, status_by_end}
use Rattle.lt_live_serve.specs.Serves.{Serves, Did, WroteLiveByFewest, StoppedLiveByFewest, Ends, GoesWell, IsUnfit, IsGood}
use Rattle.lt_call.specs.Scripts.{DenotesOrdered}

-- what is known where nothing fails
abbrev pub IsComplete : ℕ → Status → SourceState → SourceState → ℕ → ℕ → Type 0
IsComplete words status before after writes_before writes_after =
    GoesWell words status before after writes_before writes_after → IsEnding (outcome_of status)

-- no journal is that of a run that was cut
not_cut : (status : Status) (left : Option (List ℕ)) (run : List Logged) (polled : List (ℕ × Reply)) (old new : Option (List ℕ))
    → Did status left run polled old new → (node : ℕ) → status ≢ Cut node
not_cut status left run polled old new did node cut =
    let wrote : Did (Cut node) left run polled old new = subst (λ (s : Status). Did s left run polled old new) cut did in
    wrote.1.never_cut node refl

-- nor one of an ordered script at whose end somebody waits
not_stuck : (left : Option (List ℕ)) (run : List Logged) (polled : List (ℕ × Reply)) (old new : Option (List ℕ))
    → Did Stuck left run polled old new → DenotesOrdered left → ⊥
not_stuck None run polled old new did ordered = ordered
not_stuck (Some bytes) run polled old new did ordered =
    let journals = did.1 in
    let read : read_of bytes ≡ Ok journals.script = journals.denoted in
    let reads = ordered.1 in
    let same : ordered.0 ≡ journals.script = cc in
    journals.live.ordered (subst (λ (script : ScriptData). IsOrdered script) same ordered.2) refl

at_rest : (status : Status) → IsEnding (outcome_of status) → ((node : ℕ) → status ≢ Cut node) → (status ≡ Done) ⊎ (status ≡ Stuck)
at_rest Done h never = inl refl
at_rest Stuck h never = inr refl
at_rest (Cut node) h never = absurd (never node refl)
at_rest Usage h never = absurd h
at_rest (Refused fault) h never = absurd h
at_rest TooLong h never = absurd h
at_rest ReadFault h never = absurd h
at_rest WriteFault h never = absurd h
at_rest NoMemory h never = absurd h
at_rest (Share client) h never = absurd h

-- how the run ends
ends_by : (words : ℕ) (status : Status) (before after : SourceState) (run : List Logged) (polled : List (ℕ × Reply)) (old new : Option (List ℕ)) (writes_before writes_after : ℕ)
    → Did status before.left run polled old new → IsComplete words status before after writes_before writes_after
    → Ends words status before after writes_before writes_after
ends_by words status before after run polled old new writes_before writes_after did complete = record {
  never_cut = never;
  done_or_stuck = λ fine. at_rest status (complete fine) never;
  ordered = λ fine ordered. elim (at_rest status (complete fine) never) [
    | inl done ↦ done
    | inr stuck ↦ absurd (not_stuck before.left run polled old new (subst (λ (s : Status). Did s before.left run polled old new) stuck did) ordered)
  ];
}
  where
    never : (node : ℕ) → status ≢ Cut node
    never = not_cut status before.left run polled old new did

-- where the journal was written, or a part of it
pub written_serves : {S K : Type 0} (state : S → SourceState) (held : K → Option (List ℕ)) (write_faults : K → ℕ) (pace : K → Option Pace) (words : ℕ) (answer : Served) (before after : S) (sink sink_after : K)
    → words ≡ 0 → IsEnding (outcome_of answer.status) ⊎ (answer.status ≡ WriteFault)
    → Did answer.status (state before).left answer.run.entries answer.polled.items (held sink) (held sink_after)
    → IsReadWhole MAX_INPUT (state before) (state after)
    → (IsEnding (outcome_of answer.status)
    → WroteLiveByFewest answer.status (state before).left answer.run.entries answer.polled.items (held sink) (held sink_after) (pace sink) (pace sink_after))
    → (answer.status ≡ WriteFault
    → StoppedLiveByFewest (state before).left answer.run.entries answer.polled.items (held sink) (held sink_after) (pace sink) (pace sink_after))
    → SaysOfSink (outcome_of answer.status) (write_faults sink) (write_faults sink_after)
    → (WritesNothing (outcome_of answer.status) → sink_after ≡ sink) → Serves state held write_faults pace words answer before after sink sink_after
written_serves state held write_faults pace words answer before after sink sink_after none told did whole few few_failed writing unwritten =
    let written : HasWritten (outcome_of answer.status) = elim told [ inl h ↦ inl h | inr e ↦ inr (ap outcome_of e) ] in
    record {
      did = did;
      few = few;
      few_failed = few_failed;
      usage = λ e. absurd (is_other (outcome_of answer.status) outcome.Usage written tt (ap outcome_of e));
      no_words = λ some. absurd (omega (arith, none, some));
      unread = λ e. absurd (is_other (outcome_of answer.status) outcome.Usage written tt (ap outcome_of e));
      refused = λ fault e. absurd (is_other (outcome_of answer.status) outcome.Refused written tt (ap outcome_of e));
      share = λ client e. absurd (is_other (outcome_of answer.status) outcome.Share written tt (ap outcome_of e));
      memory = λ e. absurd (is_other (outcome_of answer.status) outcome.NoMemory written tt (ap outcome_of e));
      reading = λ other. written_reading MAX_INPUT (outcome_of answer.status) (state before) (state after) whole written;
      writing = writing;
      unwritten = unwritten;
      ends = ends_by words answer.status (state before) (state after) answer.run.entries answer.polled.items (held sink) (held sink_after) (write_faults sink)
          (write_faults sink_after) did
          (λ fine. elim written [
            | inl h ↦ h
            | inr e ↦ absurd (fine.no_write_fault (rose 1 (write_faults sink) (write_faults sink_after) (writing.write_fault e)))
          ]);
    }

-- the status says why there is no run
abbrev pub Refuses : Option (List ℕ) → Status → Type 0
Refuses left status = IsRefusal (IsUnfit left status) (outcome_of status)

refusal_did : (status : Status) (left : Option (List ℕ)) (run : List Logged) (polled : List (ℕ × Reply)) (held : Option (List ℕ))
    → Refuses left status → run ≡ [] → polled ≡ [] → Did status left run polled held held
refusal_did (Refused fault) left run polled held h none no_reply = (none, no_reply, refl)
refusal_did (Share client) left run polled held h none no_reply = (none, no_reply, refl)
refusal_did TooLong left run polled held h none no_reply = (none, no_reply, refl)
refusal_did ReadFault left run polled held h none no_reply = (none, no_reply, refl)
refusal_did NoMemory left run polled held h none no_reply = (none, no_reply, refl)
refusal_did Usage left run polled held h none no_reply = absurd h
refusal_did Done left run polled held h none no_reply = absurd h
refusal_did Stuck left run polled held h none no_reply = absurd h
refusal_did (Cut node) left run polled held h none no_reply = absurd h
refusal_did WriteFault left run polled held h none no_reply = absurd h

refusal_complete : (status : Status) (before after : SourceState) → Refuses before.left status
    → SaysOfSource MAX_INPUT (outcome_of status) before after → IsGood before after → status ≢ NoMemory → IsEnding (outcome_of status)
refusal_complete (Refused fault) before after h tells good memory = absurd (good.no_fault fault h)
refusal_complete (Share client) before after h tells good memory = absurd (good.none_over client h)
refusal_complete TooLong before after h tells good memory = absurd (good.not_too_long (rose (MAX_INPUT + 1) before.given after.given (tells.too_long refl)))
refusal_complete ReadFault before after h tells good memory = absurd (good.no_read_fault (rose 1 before.faults after.faults (tells.read_fault refl)))
refusal_complete NoMemory before after h tells good memory = absurd (memory refl)
refusal_complete Usage before after h tells good memory = absurd h
refusal_complete Done before after h tells good memory = absurd h
refusal_complete Stuck before after h tells good memory = absurd h
refusal_complete (Cut node) before after h tells good memory = absurd h
refusal_complete WriteFault before after h tells good memory = absurd h

not_ended : (status : Status) (left : Option (List ℕ)) → Refuses left status → IsEnding (outcome_of status) → ⊥
not_ended Done left h ended = h
not_ended Stuck left h ended = h
not_ended (Cut node) left h ended = h
not_ended Usage left h ended = ended
not_ended (Refused fault) left h ended = ended
not_ended TooLong left h ended = ended
not_ended ReadFault left h ended = ended
not_ended WriteFault left h ended = ended
not_ended NoMemory left h ended = ended
not_ended (Share client) left h ended = ended

-- where there is no run
pub refusal_serves : {S K : Type 0} (state : S → SourceState) (held : K → Option (List ℕ)) (write_faults : K → ℕ) (pace : K → Option Pace) (words : ℕ) (answer : Served) (status : Status) (before after : S) (sink : K)
    → words ≡ 0 → answer.status ≡ status → answer.run.entries ≡ [] → answer.polled.items ≡ [] → Refuses (state before).left status
    → SaysOfSource MAX_INPUT (outcome_of status) (state before) (state after) → (status ≡ NoMemory → Rose (state before).given (state after).given)
    → Serves state held write_faults pace words answer before after sink sink
refusal_serves state held write_faults pace words answer status before after sink none same no_run no_reply refused reading memory =
    let refusal = subst (Refuses (state before).left) (sym same) refused in
    let tells = subst (λ (s : Status). SaysOfSource MAX_INPUT (outcome_of s) (state before) (state after)) (sym same) reading in
    let did = refusal_did answer.status (state before).left answer.run.entries answer.polled.items (held sink) refusal no_run no_reply in
    record {
      did = did;
      few = λ ended. absurd (not_ended answer.status (state before).left refusal ended);
      few_failed = λ e. absurd (subst (Refuses (state before).left) e refusal);
      usage = λ e. absurd (subst (Refuses (state before).left) e refusal);
      no_words = λ some. absurd (omega (arith, none, some));
      unread = λ e. absurd (subst (Refuses (state before).left) e refusal);
      refused = λ fault e. subst (Refuses (state before).left) e refusal;
      share = λ client e. subst (Refuses (state before).left) e refusal;
      memory = λ e. memory (sym same ∙ e);
      reading = λ other. tells;
      writing = record {
        write_fault = λ e. absurd (subst (IsRefusal (IsUnfit (state before).left answer.status)) e refusal);
        no_write_fault = λ other. refl;
      };
      unwritten = λ nothing. refl;
      ends = ends_by words answer.status (state before) (state after) answer.run.entries answer.polled.items (held sink) (held sink) (write_faults sink)
          (write_faults sink) did (λ fine. refusal_complete answer.status (state before) (state after) refusal tells fine.good fine.memory);
    }

-- where there is a word
pub usage_serves : {S K : Type 0} (state : S → SourceState) (held : K → Option (List ℕ)) (write_faults : K → ℕ) (pace : K → Option Pace) (words : ℕ) (answer : Served) (source : S) (sink : K)
    → 0 < words → answer.status ≡ Usage → answer.run.entries ≡ [] → answer.polled.items ≡ [] → Serves state held write_faults pace words answer source source sink sink
usage_serves state held write_faults pace words answer source sink some is no_run no_reply = record {
  did = did;
  few = λ ended. absurd (subst (λ (s : Status). IsEnding (outcome_of s)) is ended);
  few_failed = λ e. absurd (cc);
  usage = λ e. some;
  no_words = λ h. is;
  unread = λ e. refl;
  refused = λ fault e. absurd (cc);
  share = λ client e. absurd (cc);
  memory = λ e. absurd (cc);
  reading = λ other. absurd (other is);
  writing = record { write_fault = λ e. absurd (not_write (subst (λ (s : Status). outcome_of s ≡ outcome.WriteFault) is e)); no_write_fault = λ other. refl };
  unwritten = λ nothing. refl;
  ends = ends_by words answer.status (state source) (state source) answer.run.entries answer.polled.items (held sink) (held sink) (write_faults sink)
      (write_faults sink) did (λ fine. absurd (let none = fine.no_words in omega (arith, none, some)));
}
  where
    not_write : outcome.Usage ≡ outcome.WriteFault → ⊥
    not_write e = cc

    did : Did answer.status (state source).left answer.run.entries answer.polled.items (held sink) (held sink)
    did = subst (λ (s : Status). Did s (state source).left answer.run.entries answer.polled.items (held sink) (held sink)) (sym is) (no_run, no_reply, refl)

-- what was written of each ending
pub end_is_ending : (end : Ending) → IsEnding (outcome_of (status_by_end end))
end_is_ending ending.Done = tt
end_is_ending ending.Stuck = tt
end_is_ending (ending.Cut node) = tt
