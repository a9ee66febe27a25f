-- What `check` answers, by what its input says.
use Rattle.std.proofs.Common.{◌≡◌, ◌∙◌, ◌++◌, ℕ, List, length, codes, decimal, Option, refl, sym, ap, subst}
use Rattle.lt_io.specs.Streams.{SourceState, IsReadWhole}
use Rattle.lt_call.specs.declared.outcome.Outcome.TheVariants as outcome
use Rattle.lt_call.specs.Outcomes.{SaysOfSource}
use Rattle.lt_call.proofs.Answering.{failed_reading, long_reading, memory_reading, refused_reading}
use Rattle.lt_spec.specs.World.{Logged}
use Rattle.lt_modes.specs.Script.{ScriptData}
use Rattle.lt_spec.specs.Script.{IsScript, IsShort}
use Rattle.lt_world.specs.Fields.{WorldData}
use Rattle.lt_spec.specs.Promised.{Promised}
use Rattle.lt_checker.specs.declared.limits.TheConstants.{MAX_JOURNAL}
use Rattle.lt_checker.specs.declared.error.InputError.{InputError}
use Rattle.lt_checker.specs.declared.error.InputError.TheVariants as error
use Rattle.lt_checker.specs.Input.{IsJournalOf, IsEndedRun, FailsInput, WantsMemory}
use Rattle.lt_law_journals.specs.Checking.{IsFinished}
use Rattle.lt_words.specs.declared.command.Command.TheVariants.{Check}
use Rattle.lt_serve.specs.declared.made.Made.{Made}
use Rattle.lt_serve.specs.declared.status.Status.TheVariants.{Done, NoMemory}
use Rattle.lt_serve.specs.Causes.{IsRefusal, status_of_input}
use Rattle.lt_serve.specs.Status.{outcome_of}
use Rattle.lt_serve.specs.TopCall.{Checks}

-- the number of moves of the run is the answer to the input that tells the run
pub counted : (left : Option (List ℕ)) (script : ScriptData) (world : WorldData) (run : List Logged) (made : Made) → IsScript script → IsShort script → IsEndedRun left script world
    → run ≡ world.run → Promised script world.run
    → (made.ending ≡ Done) × (made.run.entries ≡ run) × (made.text.items ≡ codes "ok " ++ decimal (length run) ++ codes "\n") → Checks made.ending left made.run.entries made.text.items
counted left script world run made kept short ended is promised h =
    let same : world.run ≡ made.run.entries = sym is ∙ sym h.1 in
    record {
      done = h.0;
      script = script;
      is_script = kept;
      is_short = short;
      denoted = ended.denoted;
      accepted = subst (λ (r : List Logged). IsJournalOf left script r) same ended.accepted;
      finished = subst (λ (r : List Logged). IsFinished script r) same ended.finished;
      promised = subst (λ (r : List Logged). Promised script r) same promised;
      counted = h.2 ∙ ap (λ (r : List Logged). codes "ok " ++ decimal (length r) ++ codes "\n") (sym h.1);
    }

-- what an answer says of the source, where the input says nothing
pub fails_says : (e : InputError) (before after : SourceState) → FailsInput e before after → SaysOfSource MAX_JOURNAL (outcome_of (status_of_input e)) before after
fails_says error.ReadFault before after fails = failed_reading MAX_JOURNAL before after fails.0 fails.1
fails_says error.TooLong before after fails = long_reading MAX_JOURNAL before after fails.0 fails.1 fails.2
fails_says error.NoMemory before after fails = memory_reading MAX_JOURNAL before after fails.0 fails.1
fails_says (error.Refused fault) before after fails = refused_reading MAX_JOURNAL outcome.Refused before after fails.1 tt
fails_says (error.BadJournal line) before after fails = refused_reading MAX_JOURNAL outcome.BadJournal before after fails.1 tt

-- why it is the answer
pub fails_refused : (e : InputError) (before after : SourceState) → FailsInput e before after → IsRefusal Check before.left (status_of_input e)
fails_refused error.ReadFault before after fails = refl
fails_refused error.TooLong before after fails = refl
fails_refused error.NoMemory before after fails = tt
fails_refused (error.Refused fault) before after fails = (refl, fails.0)
fails_refused (error.BadJournal line) before after fails = (refl, refl, fails.0)

-- and where memory was wanting
pub fails_wants : (e : InputError) (before after : SourceState) → FailsInput e before after → status_of_input e ≡ NoMemory → WantsMemory before after
fails_wants error.NoMemory before after fails is = fails.2
fails_wants error.ReadFault before after fails is = absurd (cc)
fails_wants error.TooLong before after fails is = absurd (cc)
fails_wants (error.Refused fault) before after fails is = absurd (cc)
fails_wants (error.BadJournal line) before after fails is = absurd (cc)

-- memory was refused once all was read
pub memory_says : (before after : SourceState) → IsReadWhole MAX_JOURNAL before after → SaysOfSource MAX_JOURNAL outcome.NoMemory before after
memory_says before after whole = memory_reading MAX_JOURNAL before after whole.few whole.without_fault
