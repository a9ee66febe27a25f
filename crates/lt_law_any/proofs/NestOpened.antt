-- What is written of any bytes.
use Rattle.std.proofs.Common.{◌≡◌, ◌≢◌, ◌<◌, ◌++◌, ℕ, List, Option, Some, Ok, Err, Result, refl, sym, ap, subst, arith, ◌∙◌, take, length}
use Rattle.lt_io.specs.Streams.{SourceState, Pace}
use Rattle.lt_call.specs.Outcomes.{IsRefused}
use Rattle.lt_nest_lines.specs.declared.answer.Answer.{Answer}
use Rattle.lt_nest_lines.specs.declared.answer.Answer.TheVariants.{Done, Refused, WriteFault, NoMemory, Usage, TooLong, ReadFault}
use Rattle.lt_nest_lines.specs.Answers.{outcome_of}
use Rattle.lt_nest_lines.specs.Input.{InputData, input_of}
use Rattle.lt_nest_lines.specs.Serves.{ServesLines, IsWritten, IsTextOf, IsUnfit}
use Rattle.lt_nest_lines.specs.Written.{report_text}
use Rattle.lt_law_any.specs.AnyCall.{IsSmooth}
use Rattle.lt_law_any.specs.AnyNest.{NestSays}
use Rattle.lt_law_any.proofs.CallOpened.{appended, part_appended, no_long, no_read_rise, no_write_rise}

-- two readings of one input
same_read : {X E : Type 0} (read : Result X E) (a b : X) → read ≡ Ok a → read ≡ Ok b → a ≡ b
same_read read a b e f = cc

not_both : {X E : Type 0} (read : Result X E) (a : X) (b : E) → read ≡ Ok a → read ≡ Err b → ⊥
not_both read a b e f = cc

module _ {S K : Type 0} (state : S → SourceState) (held : K → Option (List ℕ)) (faults : K → ℕ) (pace : K → Option Pace) where
  written : (left : Option (List ℕ)) (bytes text : List ℕ) → left ≡ Some bytes → IsWritten left text → IsTextOf bytes text
  written left bytes text is h = subst (λ (o : Option (List ℕ)). IsWritten o text) is h

  nest_done : (words : ℕ) (answer : Answer) (s t : S) (k l : K) (bytes old new : List ℕ)
      → ServesLines state held faults pace words answer s t k l → (state s).left ≡ Some bytes → held k ≡ Some old
      → held l ≡ Some new → answer ≡ Done → (d : InputData) × (input_of bytes ≡ Ok d) × (new ≡ old ++ report_text d)
  nest_done words answer s t k l bytes old new serves is was now e =
      let did = serves.done (ap outcome_of e) in
      let of = written (state s).left bytes did.0 is did.1 in
      (of.0, of.1, appended (held k) (held l) old new did.0 was now did.2 ∙ ap (λ (text : List ℕ). old ++ text) of.2)

  nest_text : (words : ℕ) (answer : Answer) (s t : S) (k l : K) (bytes old new : List ℕ)
      → ServesLines state held faults pace words answer s t k l → (state s).left ≡ Some bytes → held k ≡ Some old
      → held l ≡ Some new → (d : InputData) → answer ≡ Done → input_of bytes ≡ Ok d → new ≡ old ++ report_text d
  nest_text words answer s t k l bytes old new serves is was now d e read =
      let did = nest_done words answer s t k l bytes old new serves is was now e in
      did.2 ∙ ap (λ (x : InputData). old ++ report_text x) (same_read (input_of bytes) did.0 d did.1 read)

  nest_part : (words : ℕ) (answer : Answer) (s t : S) (k l : K) (bytes old new : List ℕ)
      → ServesLines state held faults pace words answer s t k l → (state s).left ≡ Some bytes → held k ≡ Some old
      → held l ≡ Some new → (d : InputData) → answer ≡ WriteFault → input_of bytes ≡ Ok d
      → (size : ℕ) × (size < length (report_text d)) × (new ≡ old ++ take size (report_text d))
  nest_part words answer s t k l bytes old new serves is was now d e read =
      let did = serves.write_fault (ap outcome_of e) in
      let of = written (state s).left bytes did.0 is did.1 in
      let same : did.0 ≡ report_text d = of.2 ∙ ap report_text (same_read (input_of bytes) of.0 d of.1 read) in
      subst (λ (text : List ℕ). (size : ℕ) × (size < length text) × (new ≡ old ++ take size text)) same
      (part_appended (held k) (held l) old new did.0 was now did.2)

  nest_refused : (words : ℕ) (answer : Answer) (s t : S) (k l : K) (bytes old new : List ℕ)
      → ServesLines state held faults pace words answer s t k l → (state s).left ≡ Some bytes → held k ≡ Some old
      → held l ≡ Some new → (line : ℕ) → answer ≡ Refused line → input_of bytes ≡ Err line
  nest_refused words answer s t k l bytes old new serves is was now line e =
      let why = serves.refused (subst (λ (a : Answer). IsRefused (outcome_of a)) (sym e) tt) in
      let of_line = subst (IsUnfit (state s).left) e why in
      subst (λ (left : Option (List ℕ)). IsUnfit left (Refused line)) is of_line

  none_refused : (left : Option (List ℕ)) (bytes : List ℕ) (d : InputData) → left ≡ Some bytes → input_of bytes ≡ Ok d
      → (answer : Answer) → IsRefused (outcome_of answer) → IsUnfit left answer → ⊥
  none_refused left bytes d is read (Refused line) r why =
      not_both (input_of bytes) d line read (subst (λ (o : Option (List ℕ)). IsUnfit o (Refused line)) is why)
  none_refused left bytes d is read Done r why = r
  none_refused left bytes d is read Usage r why = r
  none_refused left bytes d is read TooLong r why = r
  none_refused left bytes d is read ReadFault r why = r
  none_refused left bytes d is read WriteFault r why = r
  none_refused left bytes d is read NoMemory r why = r

  is_done : (answer : Answer) → outcome_of answer ≡ outcome_of Done → answer ≡ Done
  is_done Done e = refl
  is_done Usage e = cc
  is_done (Refused line) e = cc
  is_done TooLong e = cc
  is_done ReadFault e = cc
  is_done WriteFault e = cc
  is_done NoMemory e = cc

  wants_none : (answer : Answer) → outcome_of answer ≡ outcome_of NoMemory → answer ≡ NoMemory
  wants_none NoMemory e = refl
  wants_none Done e = cc
  wants_none Usage e = cc
  wants_none (Refused line) e = cc
  wants_none TooLong e = cc
  wants_none ReadFault e = cc
  wants_none WriteFault e = cc

  nest_good : (answer : Answer) (s t : S) (k l : K) (bytes : List ℕ) (d : InputData)
      → ServesLines state held faults pace 0 answer s t k l → (state s).left ≡ Some bytes → input_of bytes ≡ Ok d
      → IsSmooth 1048576 (state s) (state t) (faults k) (faults l) → answer ≢ NoMemory → answer ≡ Done
  nest_good answer s t k l bytes d serves is read smooth there =
      is_done answer (serves.complete refl
      (record {
        no_read_fault = no_read_rise 1048576 (state s) (state t) (faults k) (faults l) smooth;
        not_too_long = no_long 1048576 (state s) (state t) (faults k) (faults l) smooth;
        none_refused = none_refused (state s).left bytes d is read;
      })
      (no_write_rise 1048576 (state s) (state t) (faults k) (faults l) smooth)
      (λ e. there (wants_none answer e)))

  pub nest_says : NestSays state held faults pace
  nest_says = record { done = nest_done; text = nest_text; part = nest_part; refused = nest_refused; good = nest_good }
