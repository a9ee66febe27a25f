-- What follows of an answer that comes once the writing has begun, and of words that are a command.
use Rattle.std.proofs.Common.{◌≡◌, ℕ, Bool, true, false, List, [], ◌∷◌, Option, Some, None, refl, sym, subst, ◌∙◌, ap, length, take, arith, inl, inr, option_map, if◌then◌else◌, codes, IsTrue, IsFalse, ◌⊎◌, bytes_eq, take_all}
use Rattle.std.proofs.lemmas.Bool.{false≢true}
use Rattle.lt_modes.specs.Script.{ScriptData}
use Rattle.lt_spec.specs.Script.{IsScript, IsShort}
use Rattle.lt_spec.specs.Ordered.{IsOrdered}
use Rattle.lt_spec.specs.World.{Logged, world_after, IsRun, is_at_rest, anyone_waits, EndsBy}
use Rattle.lt_spec.specs.declared.ending.Ending.{Ending}
use Rattle.lt_spec.specs.declared.ending.Ending.TheVariants as ending
use Rattle.lt_io.specs.Streams.{CountsFaults, SourceState, Pace, IsReadWhole}
use Rattle.lt_text.specs.Number.{number}
use Rattle.lt_gen.specs.Sizes.{can_make}
use Rattle.lt_words.specs.declared.command.Command.{Command}
use Rattle.lt_words.specs.declared.command.Command.TheVariants.{Sim, Make, Soak, Run, SimFirst, Check, Order}
use Rattle.lt_words.specs.Grammar.{seed_of, make_of, version_of, command_of}
use Rattle.lt_law_invariant.proofs.FewAsks.{whole}
use Rattle.lt_law_promises.specs.Promises.{RunsKeepPromises}
use Rattle.lt_law_ordered.specs.OrderedLaws.{OrderedFinish}
use Rattle.lt_threads.specs.Threads.{StaysWithin}
use Rattle.lt_call.specs.declared.outcome.Outcome.TheVariants as outcome
use Rattle.lt_call.proofs.Answering.{HasWritten, is_other, rose, written_reading}
use Rattle.lt_call.specs.Outcomes.{IsEnding, WritesNothing, SaysOfSource, SaysOfSink}
use Rattle.lt_serve.specs.declared.status.Status.{Status}
use Rattle.lt_serve.specs.declared.status.Status.TheVariants.{Stuck, Done, Usage, Refused, TooLong, ReadFault, WriteFault, NoMemory, Cut, BadJournal}
use Rattle.lt_serve.specs.Causes.{HasStatusCause, CanBeMade, IsRefusal, RunsOrdered, WantsToRead, reads, limit_of}
use Rattle.lt_serve.specs.Status.{outcome_of}
use Rattle.lt_serve.specs.Endings.{EndsAs, RanTo, status_of_end}
use Rattle.lt_serve.specs.TopCall.{JournalsBy, DidOf, WroteByFewest, StoppedByFewest}
use Rattle.lt_serve.specs.declared.serving.Served.{Served}
use Rattle.lt_serve.specs.Serves.{IsComplete, IsAnswered, Serves}
use Rattle.lt_serve.proofs.Completing.{complete_of, refusal_complete}
use Rattle.lt_serve.proofs.Stuck.{stuck_unordered}

pub written_causes : (asked : Option Command) (command : Command) (left : Option (List ℕ)) (status : Status) → asked ≡ Some command
    → HasWritten (outcome_of status) → (status ≡ Stuck → RunsOrdered asked left → ⊥) → HasStatusCause asked left status
written_causes asked command left status is h stuck = record {
  usage = (λ e. absurd (is_other (outcome_of status) outcome.Usage h tt (ap outcome_of e)), λ none. absurd (not_none (sym none ∙ is)));
  refused = λ fault e. absurd (is_other (outcome_of status) outcome.Refused h tt (ap outcome_of e));
  bad_journal = λ line e. absurd (is_other (outcome_of status) outcome.BadJournal h tt (ap outcome_of e));
  stuck = stuck;
  read_fault = λ e. absurd (is_other (outcome_of status) outcome.ReadFault h tt (ap outcome_of e));
  too_long = λ e. absurd (is_other (outcome_of status) outcome.TooLong h tt (ap outcome_of e));
}
  where
    not_none : None ≡ Some command → ⊥
    not_none e = cc

pub refused_causes : (asked : Option Command) (command : Command) (left : Option (List ℕ)) (status : Status) → asked ≡ Some command
    → IsRefusal command left status → HasStatusCause asked left status
refused_causes asked command left status is h = subst (λ (a : Option Command). HasStatusCause a left status) (sym is) (record {
  usage = (λ e. absurd (subst (λ (s : Status). IsRefusal command left s) e h), λ none. absurd (not_none none));
  refused = λ fault e. subst (λ (s : Status). IsRefusal command left s) e h;
  bad_journal = λ line e. let k = subst (λ (s : Status). IsRefusal command left s) e h in (ap Some k.1, k.2);
  stuck = λ e. absurd (subst (λ (s : Status). IsRefusal command left s) e h);
  read_fault = λ e. subst (λ (s : Status). IsRefusal command left s) e h;
  too_long = λ e. subst (λ (s : Status). IsRefusal command left s) e h;
})
  where
    not_none : Some command ≡ None → ⊥
    not_none e = cc

-- a command as an answer to words, if it is one of a script to make
abbrev pub MayBeMade : Option Command → Type 0
MayBeMade None = Unit {0}
MayBeMade (Some command) = CanBeMade command

seed_may : (make : ℕ → Command) → ((seed : ℕ) → CanBeMade (make seed)) → (seed : Option ℕ) → MayBeMade (option_map make seed)
seed_may make may None = tt
seed_may make may (Some seed) = may seed

if_may : (test : Bool) (this that : Option Command) → MayBeMade this → MayBeMade that → MayBeMade (if test then this else that)
if_may true this that h k = h
if_may false this that h k = k

make_may : (version nodes clients commands seed : Option ℕ) → MayBeMade (make_of version nodes clients commands seed)
make_may (Some version) (Some nodes) (Some clients) (Some commands) (Some seed) = by_test (can_make version nodes clients commands) refl
  where
    by_test : (test : Bool) → can_make version nodes clients commands ≡ test → MayBeMade (if test then Some (Make version nodes clients commands seed) else None)
    by_test true e = e
    by_test false e = tt
make_may (Some version) (Some nodes) (Some clients) (Some commands) None = tt
make_may (Some version) (Some nodes) (Some clients) None seed = tt
make_may (Some version) (Some nodes) None commands seed = tt
make_may (Some version) None clients commands seed = tt
make_may None nodes clients commands seed = tt

-- the numbers of a command are such that its script can be made
pub may_be_made : (words : List (List ℕ)) → MayBeMade (command_of words)
may_be_made [] = tt
may_be_made (word ∷ []) = if_may (bytes_eq word (codes "run")) _ _ tt (if_may (bytes_eq word (codes "check")) _ _ tt (if_may (bytes_eq word (codes "order")) _ _ tt tt))
may_be_made (word ∷ seed ∷ []) =
    if_may (bytes_eq word (codes "sim")) _ _ (if_may (bytes_eq seed (codes "first")) _ _ tt (seed_may Sim (λ k. tt) (seed_of seed)))
    (if_may (bytes_eq word (codes "soak")) _ _ (seed_may Soak (λ k. tt) (seed_of seed)) tt)
may_be_made (word ∷ a ∷ b ∷ []) = tt
may_be_made (word ∷ a ∷ b ∷ c ∷ []) = tt
may_be_made (word ∷ nodes ∷ clients ∷ commands ∷ seed ∷ []) =
    if_may (bytes_eq word (codes "make")) _ _ (make_may (Some 1) (number nodes) (number clients) (number commands) (seed_of seed)) tt
may_be_made (word ∷ a ∷ b ∷ c ∷ d ∷ e ∷ []) = tt
may_be_made (word ∷ nodes ∷ clients ∷ commands ∷ seed ∷ key ∷ version ∷ []) =
    if_may (bytes_eq word (codes "make")) _ _ (make_may (version_of key version) (number nodes) (number clients) (number commands) (seed_of seed)) tt
may_be_made (word ∷ a ∷ b ∷ c ∷ d ∷ e ∷ f ∷ g ∷ rest) = tt

-- How a run ended: what is known of it then, and why it ended with a client waiting.

ends_as : (moves : ℕ) (end : Ending) (script : ScriptData) (run : List Logged) → EndsBy moves end script run → EndsAs moves (status_of_end end) script run
ends_as moves ending.Done script run e = e
ends_as moves ending.Stuck script run e = e
ends_as moves (ending.Cut node) script run e = e

-- at rest in a run of an ordered script no client waits
not_stuck : (moves : ℕ) (end : Ending) (script : ScriptData) (run : List Logged) → IsScript script → IsRun script run → EndsBy moves end script run
    → OrderedFinish → IsOrdered script → status_of_end end ≡ Stuck → ⊥
not_stuck moves ending.Done script run is_script is_run e finish ordered stuck = cc
not_stuck moves (ending.Cut node) script run is_script is_run e finish ordered stuck = cc
not_stuck moves ending.Stuck script run is_script is_run e finish ordered stuck =
    let all = take_all (length run) run (omega arith) in
    let rests : IsTrue (is_at_rest script (world_after script (take (length run) run))) = subst (λ (r : List Logged). IsTrue (is_at_rest script (world_after script r))) (sym all) e.0 in
    let nobody : IsFalse (anyone_waits script (world_after script run)) =
    subst (λ (r : List Logged). IsFalse (anyone_waits script (world_after script r))) all (finish script run (whole script is_script) is_run ordered (length run) rests) in
    false≢true (sym nobody ∙ e.1)

-- a run that ended so
pub ran_to : (moves : ℕ) (end : Ending) (script : ScriptData) (run : List Logged) → RunsKeepPromises → OrderedFinish
    → IsScript script → IsShort script → IsRun script run → StaysWithin moves script run → EndsBy moves end script run → RanTo moves (status_of_end end) script run
ran_to moves end script run promises finish is_script is_short is_run within e = record {
  is_script = is_script;
  is_short = is_short;
  is_run = is_run;
  within = within;
  ends = ends_as moves end script run e;
  promised = promises script run (whole script is_script) is_run;
  ordered = not_stuck moves end script run is_script is_run e finish;
}

-- What an answer says of a command: once its text is written, and where it came to no end.

does_answered : (moves : ℕ) (command : Command) (status : Status) (left : Option (List ℕ)) (run : List Logged) (text : List ℕ)
    → JournalsBy moves command status left run text → IsEnding (outcome_of status) → IsAnswered command status
does_answered moves SimFirst status left run text does h = h
does_answered moves (Sim seed) status left run text does h = h
does_answered moves (Make version nodes clients commands seed) status left run text does h = does.0
does_answered moves Check status left run text does h = does.done
does_answered moves Run status left run text does h = h
does_answered moves (Soak seed) status left run text does h = h
does_answered moves Order status left run text does h = does.done

told_answered : (moves : ℕ) (command : Command) (status : Status) (left : Option (List ℕ)) (run : List Logged) (old new : Option (List ℕ))
    → DidOf moves command status left run old new → IsEnding (outcome_of status) → IsAnswered command status
told_answered moves command Done left run old new told h = does_answered moves command Done left run told.0 told.1 h
told_answered moves command Stuck left run old new told h = does_answered moves command Stuck left run told.0 told.1 h
told_answered moves command (Cut node) left run old new told h = does_answered moves command (Cut node) left run told.0 told.1 h
told_answered moves command Usage left run old new told h = absurd h
told_answered moves command (Refused fault) left run old new told h = absurd h
told_answered moves command TooLong left run old new told h = absurd h
told_answered moves command ReadFault left run old new told h = absurd h
told_answered moves command WriteFault left run old new told h = absurd h
told_answered moves command NoMemory left run old new told h = absurd h
told_answered moves command (BadJournal line) left run old new told h = absurd h

pub written_complete : (moves : ℕ) (command : Command) (status : Status) (left : Option (List ℕ)) (run : List Logged) (old new : Option (List ℕ))
    (before after : SourceState) (w v : ℕ) → DidOf moves command status left run old new → IsEnding (outcome_of status) ⊎ (status ≡ WriteFault) → (status ≡ WriteFault → CountsFaults 1 w v)
    → IsComplete (Some command) status before after w v
written_complete moves command status left run old new before after w v told (inl h) fault =
    complete_of command status before after w v (λ good writes memory. told_answered moves command status left run old new told h)
written_complete moves command status left run old new before after w v told (inr e) fault =
    complete_of command status before after w v (λ good writes memory. absurd (writes (rose 1 w v (fault e))))

refusal_did : (moves : ℕ) (command : Command) (status : Status) (left : Option (List ℕ)) (run : List Logged) (held : Option (List ℕ))
    → IsRefusal command left status → run ≡ [] → DidOf moves command status left run held held
refusal_did moves command (Refused fault) left run held h none = (none, refl)
refusal_did moves command TooLong left run held h none = (none, refl)
refusal_did moves command ReadFault left run held h none = (none, refl)
refusal_did moves command NoMemory left run held h none = (none, refl)
refusal_did moves command (BadJournal line) left run held h none = (none, refl)
refusal_did moves command Usage left run held h none = absurd h
refusal_did moves command Done left run held h none = absurd h
refusal_did moves command Stuck left run held h none = absurd h
refusal_did moves command (Cut node) left run held h none = absurd h
refusal_did moves command WriteFault left run held h none = absurd h

refusal_leaves : (command : Command) (left : Option (List ℕ)) (status : Status) → IsRefusal command left status → WritesNothing (outcome_of status)
refusal_leaves command left (Refused fault) h = tt
refusal_leaves command left TooLong h = tt
refusal_leaves command left ReadFault h = tt
refusal_leaves command left NoMemory h = tt
refusal_leaves command left (BadJournal line) h = tt
refusal_leaves command left Usage h = tt
refusal_leaves command left Done h = h
refusal_leaves command left Stuck h = h
refusal_leaves command left (Cut node) h = h
refusal_leaves command left WriteFault h = h

-- a command that came to no end
pub refusal_serves : {S K : Type 0} (state : S → SourceState) (held : K → Option (List ℕ)) (write_faults : K → ℕ) (pace : K → Option Pace)
    (moves : ℕ) (asked : Option Command) (command : Command) (answer : Served) (status : Status) (before after : S) (sink : K)
    → asked ≡ Some command → answer.status ≡ status → answer.run.entries ≡ [] → IsRefusal command (state before).left status
    → (reads (Some command) ≡ true → SaysOfSource (limit_of (Some command)) (outcome_of status) (state before) (state after))
    → (reads (Some command) ≡ false → after ≡ before)
    → (status ≡ NoMemory → reads (Some command) ≡ true → WantsToRead (Some command) (state before) (state after))
    → Serves state held write_faults pace moves asked answer before after sink sink
refusal_serves state held write_faults pace moves asked command answer status before after sink is same none refused reading unread memory =
    let refusal = subst (λ (s : Status). IsRefusal command (state before).left s) (sym same) refused in
    let read = subst (λ (s : Status). reads (Some command) ≡ true → SaysOfSource (limit_of (Some command)) (outcome_of s) (state before) (state after)) (sym same) reading in
    subst (λ (a : Option Command). Serves state held write_faults pace moves a answer before after sink sink) (sym is) (record {
      did = refusal_did moves command answer.status (state before).left answer.run.entries (held sink) refusal none;
      few = λ ended. absurd (is_other (outcome_of answer.status) (outcome_of answer.status) (inl ended)
          (refusal_leaves command (state before).left answer.status refusal) refl);
      few_failed = λ e. absurd (subst (λ (s : Status). IsRefusal command (state before).left s) e refusal);
      causes = refused_causes (Some command) command (state before).left answer.status refl refusal;
      memory = λ e asks. inr (memory (sym same ∙ e) asks);
      reading = read;
      unread = unread;
      writing = record {
        write_fault = λ e. absurd (subst WritesNothing e (refusal_leaves command (state before).left answer.status refusal));
        no_write_fault = λ other. refl;
      };
      unwritten = λ nothing. refl;
      complete = refusal_complete command answer.status (state before) (state after)
          (write_faults sink) (write_faults sink) refusal read;
    })

-- a command whose text was written, or a part of it
pub written_serves : {S K : Type 0} (state : S → SourceState) (held : K → Option (List ℕ)) (write_faults : K → ℕ) (pace : K → Option Pace)
    (moves : ℕ) (asked : Option Command) (command : Command) (answer : Served) (before after : S) (sink sink_after : K)
    → asked ≡ Some command → IsEnding (outcome_of answer.status) ⊎ (answer.status ≡ WriteFault)
    → DidOf moves command answer.status (state before).left answer.run.entries (held sink) (held sink_after)
    → (reads (Some command) ≡ true → IsReadWhole (limit_of (Some command)) (state before) (state after))
    → (reads (Some command) ≡ false → after ≡ before)
    → (IsEnding (outcome_of answer.status)
    → WroteByFewest moves (Some command) answer.status (state before).left answer.run.entries (held sink) (held sink_after) (pace sink) (pace sink_after))
    → (answer.status ≡ WriteFault
    → StoppedByFewest moves (Some command) (state before).left answer.run.entries (held sink) (held sink_after) (pace sink) (pace sink_after))
    → SaysOfSink (outcome_of answer.status) (write_faults sink) (write_faults sink_after) → (WritesNothing (outcome_of answer.status) → sink_after ≡ sink)
    → Serves state held write_faults pace moves asked answer before after sink sink_after
written_serves state held write_faults pace moves asked command answer before after sink sink_after is begun told whole unread few few_failed writing unwritten =
    let written : HasWritten (outcome_of answer.status) = elim begun [ inl h ↦ inl h | inr e ↦ inr (ap outcome_of e) ] in
    subst (λ (a : Option Command). Serves state held write_faults pace moves a answer before after sink sink_after) (sym is) (record {
      did = told;
      few = few;
      few_failed = few_failed;
      causes = written_causes (Some command) command (state before).left answer.status refl written
          (stuck_unordered moves command answer.status (state before).left answer.run.entries (held sink) (held sink_after) told);
      memory = λ e asks. absurd (is_other (outcome_of answer.status) outcome.NoMemory written tt (ap outcome_of e));
      reading = λ read. written_reading (limit_of (Some command)) (outcome_of answer.status) (state before) (state after) (whole read) written;
      unread = unread;
      writing = writing;
      unwritten = unwritten;
      complete = written_complete moves command answer.status (state before).left answer.run.entries (held sink) (held sink_after)
          (state before) (state after) (write_faults sink) (write_faults sink_after) told begun (λ e. writing.write_fault (ap outcome_of e));
    })
