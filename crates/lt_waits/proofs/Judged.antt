-- What an answer says of an input that was read: the report of its run, or why there is none.
use Rattle.std.proofs.Common.{◌≡◌, ◌≢◌, ◌∙◌, ℕ, List, [], Option, ap, sym, subst}
use Rattle.lt_io.specs.Streams.{SourceState}
use Rattle.lt_call.specs.declared.outcome.Outcome.TheVariants as outcome
use Rattle.lt_call.specs.Outcomes.{IsRefusal, SaysOfSource}
use Rattle.lt_call.proofs.Answering.{failed_reading, long_reading, memory_reading, refused_reading}
use Rattle.lt_modes.specs.Script.{ScriptData}
use Rattle.lt_spec.specs.World.{world_after}
use Rattle.lt_spec.specs.Rings.{waits_report}
use Rattle.lt_world.specs.Fields.{WorldData, world_of}
use Rattle.lt_checker.specs.declared.limits.TheConstants.{MAX_JOURNAL}
use Rattle.lt_checker.specs.declared.error.InputError.{InputError}
use Rattle.lt_checker.specs.declared.error.InputError.TheVariants as error
use Rattle.lt_checker.specs.Input.{IsEndedRun, FailsInput, WantsMemory}
use Rattle.lt_waits.specs.declared.answer.Answer.{Answer}
use Rattle.lt_waits.specs.Answers.{answer_of_input, outcome_of}
use Rattle.lt_waits.specs.Serves.{Explains, waits_text, IsReportOf, IsWhyOf, IsUnfit}
use Rattle.lt_waits.specs.Why.{NamesRing, void_text, why_text}

fails_says : (e : InputError) (before after : SourceState) → FailsInput e before after → SaysOfSource MAX_JOURNAL (outcome_of (answer_of_input e)) before after
fails_says error.ReadFault before after fails = failed_reading MAX_JOURNAL before after fails.0 fails.1
fails_says error.TooLong before after fails = long_reading MAX_JOURNAL before after fails.0 fails.1 fails.2
fails_says error.NoMemory before after fails = memory_reading MAX_JOURNAL before after fails.0 fails.1
fails_says (error.Refused fault) before after fails = refused_reading MAX_JOURNAL outcome.Refused before after fails.1 tt
fails_says (error.BadJournal line) before after fails = refused_reading MAX_JOURNAL outcome.BadJournal before after fails.1 tt

fails_refusal : (e : InputError) (before after : SourceState) → FailsInput e before after
    → IsRefusal (IsUnfit before.left (answer_of_input e)) (outcome_of (answer_of_input e))
fails_refusal error.ReadFault before after fails = tt
fails_refusal error.TooLong before after fails = tt
fails_refusal error.NoMemory before after fails = tt
fails_refusal (error.Refused fault) before after fails = fails.0
fails_refusal (error.BadJournal line) before after fails = fails.0

-- why an input says nothing is the answer
pub unfit_says : (answer : Answer) (e : InputError) (before after : SourceState) → answer ≡ answer_of_input e → FailsInput e before after
    → SaysOfSource MAX_JOURNAL (outcome_of answer) before after
unfit_says answer e before after is fails =
    subst (λ (a : Answer). SaysOfSource MAX_JOURNAL (outcome_of a) before after) (sym is) (fails_says e before after fails)

pub unfit_refusal : (answer : Answer) (e : InputError) (before after : SourceState) → answer ≡ answer_of_input e → FailsInput e before after
    → IsRefusal (IsUnfit before.left answer) (outcome_of answer)
unfit_refusal answer e before after is fails =
    subst (λ (a : Answer). IsRefusal (IsUnfit before.left a) (outcome_of a)) (sym is) (fails_refusal e before after fails)

fails_wants : (e : InputError) (before after : SourceState) → FailsInput e before after → outcome_of (answer_of_input e) ≡ outcome.NoMemory → WantsMemory before after
fails_wants error.NoMemory before after fails is = fails.2
fails_wants error.ReadFault before after fails is = absurd (cc)
fails_wants error.TooLong before after fails is = absurd (cc)
fails_wants (error.Refused fault) before after fails is = absurd (cc)
fails_wants (error.BadJournal line) before after fails is = absurd (cc)

pub unfit_wants : (answer : Answer) (e : InputError) (before after : SourceState) → answer ≡ answer_of_input e → FailsInput e before after
    → outcome_of answer ≡ outcome.NoMemory → WantsMemory before after
unfit_wants answer e before after is fails none = fails_wants e before after fails (sym (ap outcome_of is) ∙ none)

-- the report of the world in which the run ended is that of the run
pub reported : (left : Option (List ℕ)) (script : ScriptData) (world : WorldData) (text : List ℕ) → IsEndedRun left script world
    → Explains script world.run → text ≡ waits_text script (waits_report script (world_of world)) → IsReportOf left text
reported left script world text ended explained told = record {
  script = script;
  run = world.run;
  denoted = ended.denoted;
  accepted = ended.accepted;
  finished = ended.finished;
  explained = explained;
  told = told ∙ ap (λ (s : ScriptData). waits_text script (waits_report script (world_after s world.run))) ended.script_is;
}

-- and so is what is said of why clients wait
pub said_why : (left : Option (List ℕ)) (script : ScriptData) (world : WorldData) (text : List ℕ) → IsEndedRun left script world
    → (script.version ≢ 3 → void_text script world.run ≡ [])
    → (ring : Option (List ℕ)) × NamesRing script world.run ring × (text ≡ why_text script world.run ring) → IsWhyOf left text
said_why left script world text ended old said = record {
  script = script;
  run = world.run;
  denoted = ended.denoted;
  accepted = ended.accepted;
  finished = ended.finished;
  ring = said.0;
  names = said.1;
  told = said.2;
  old = old;
}
