-- What the program on nested transactions writes of any bytes.
use Rattle.std.specs.Prelude.{◌≡◌, ◌≢◌, ◌<◌, ◌++◌, ℕ, List, Option, Some, Ok, Err, length, take}
use Rattle.lt_io.specs.Streams.{SourceState, Pace}
use Rattle.lt_nest_lines.specs.declared.answer.Answer.{Answer}
use Rattle.lt_nest_lines.specs.declared.answer.Answer.TheVariants.{Done, Refused, WriteFault, NoMemory}
use Rattle.lt_nest_lines.specs.Input.{InputData, input_of}
use Rattle.lt_nest_lines.specs.Serves.{ServesLines}
use Rattle.lt_nest_lines.specs.Written.{report_text}
use Rattle.lt_law_any.specs.AnyCall.{IsSmooth}

module _ {S K : Type 0} (state : S → SourceState) (held : K → Option (List ℕ)) (faults : K → ℕ)
    (pace : K → Option Pace) where
  -- a fact of the answer, of the bytes that the source had, and of what the sink held before and after it
  abbrev pub OfNests : (Answer → List ℕ → List ℕ → List ℕ → Type 0) → Type 0
  OfNests fact =
      (words : ℕ) (answer : Answer) (s t : S) (k l : K) (bytes old new : List ℕ)
      → ServesLines state held faults pace words answer s t k l → (state s).left ≡ Some bytes → held k ≡ Some old
      → held l ≡ Some new → fact answer bytes old new

  pub record NestSays : Type 0 where
    -- the text of the input was appended, and no line of it is refused
    pub done : OfNests (λ answer bytes old new. answer ≡ Done
        → (d : InputData) × (input_of bytes ≡ Ok d) × (new ≡ old ++ report_text d))
    pub text : OfNests (λ answer bytes old new. (d : InputData) → answer ≡ Done → input_of bytes ≡ Ok d
        → new ≡ old ++ report_text d)
    -- or a first part of it
    pub part : OfNests (λ answer bytes old new. (d : InputData) → answer ≡ WriteFault → input_of bytes ≡ Ok d
        → (size : ℕ) × (size < length (report_text d)) × (new ≡ old ++ take size (report_text d)))
    -- the first line that is refused
    pub refused : OfNests (λ answer bytes old new. (line : ℕ) → answer ≡ Refused line → input_of bytes ≡ Err line)
    -- of an input without such a line all is done, where nothing fails and memory isn't wanting
    pub good : (answer : Answer) (s t : S) (k l : K) (bytes : List ℕ) (d : InputData)
        → ServesLines state held faults pace 0 answer s t k l → (state s).left ≡ Some bytes → input_of bytes ≡ Ok d
        → IsSmooth 1048576 (state s) (state t) (faults k) (faults l) → answer ≢ NoMemory → answer ≡ Done
