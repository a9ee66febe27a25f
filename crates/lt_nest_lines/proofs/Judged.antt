-- What an answer says of the bytes that were read: the text of their lines, or why there is none.
use Rattle.std.proofs.Common.{◌≡◌, ℕ, List, Option, Some, None, IfSome, sym, subst, inr}
use Rattle.lt_io.specs.Streams.{SourceState, Left, IsReadWhole}
use Rattle.lt_call.specs.declared.outcome.Outcome.TheVariants as outcome
use Rattle.lt_call.specs.Outcomes.{IsRefusal, SaysOfSource}
use Rattle.lt_call.proofs.Answering.{memory_reading, refused_reading}
use Rattle.lt_nest_lines.specs.declared.limits.TheConstants.{MAX_INPUT}
use Rattle.lt_nest_lines.specs.declared.answer.Answer.{Answer}
use Rattle.lt_nest_lines.specs.declared.answer.Answer.TheVariants.{Done, Usage, Refused, TooLong, ReadFault, WriteFault, NoMemory}
use Rattle.lt_nest_lines.specs.Answers.{outcome_of}
use Rattle.lt_nest_lines.specs.Serves.{IsTextOf, IsWritten, IsUnfit, IsInputFault, LinesMayWantMemory, LinesWantMemory}

-- the bytes that were read are those that were left
pub text_written : (left : Option (List ℕ)) (bytes text : List ℕ) → Left left bytes → IsTextOf bytes text → IsWritten left text
text_written None bytes text is h = tt
text_written (Some left) bytes text is h = subst (λ (b : List ℕ). IsTextOf b text) (sym is) h

pub fault_refusal : (left : Option (List ℕ)) (bytes : List ℕ) (answer : Answer) → Left left bytes → IsInputFault bytes answer
    → IsRefusal (IsUnfit left answer) (outcome_of answer)
fault_refusal None bytes (Refused line) is h = tt
fault_refusal (Some left) bytes (Refused line) is h = subst (λ (b : List ℕ). IsInputFault b (Refused line)) (sym is) h
fault_refusal left bytes NoMemory is h = tt
fault_refusal left bytes Done is h = absurd h
fault_refusal left bytes Usage is h = absurd h
fault_refusal left bytes TooLong is h = absurd h
fault_refusal left bytes ReadFault is h = absurd h
fault_refusal left bytes WriteFault is h = absurd h

pub fault_reading : (bytes : List ℕ) (answer : Answer) (before after : SourceState) → IsReadWhole MAX_INPUT before after → IsInputFault bytes answer
    → SaysOfSource MAX_INPUT (outcome_of answer) before after
fault_reading bytes (Refused line) before after whole h = refused_reading MAX_INPUT outcome.Refused before after whole tt
fault_reading bytes NoMemory before after whole h = memory_reading MAX_INPUT before after whole.few whole.without_fault
fault_reading bytes Done before after whole h = absurd h
fault_reading bytes Usage before after whole h = absurd h
fault_reading bytes TooLong before after whole h = absurd h
fault_reading bytes ReadFault before after whole h = absurd h
fault_reading bytes WriteFault before after whole h = absurd h

of_left : (left : Option (List ℕ)) (bytes : List ℕ) → Left left bytes → LinesMayWantMemory bytes → IfSome left LinesMayWantMemory
of_left None bytes is h = tt
of_left (Some left) bytes is h = subst LinesMayWantMemory (sym is) h

pub fault_wants : (bytes : List ℕ) (answer : Answer) (before after : SourceState) → Left before.left bytes → IsReadWhole MAX_INPUT before after
    → IsInputFault bytes answer → outcome_of answer ≡ outcome.NoMemory → LinesWantMemory before after
fault_wants bytes (Refused line) before after is whole h e = absurd (cc)
fault_wants bytes NoMemory before after is whole h e = inr (whole, of_left before.left bytes is h)
fault_wants bytes Done before after is whole h e = absurd h
fault_wants bytes Usage before after is whole h e = absurd h
fault_wants bytes TooLong before after is whole h e = absurd h
fault_wants bytes ReadFault before after is whole h e = absurd h
fault_wants bytes WriteFault before after is whole h e = absurd h
