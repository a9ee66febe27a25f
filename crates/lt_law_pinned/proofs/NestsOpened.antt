-- Each field of what is said of small inputs of nested transactions.
use Rattle.std.proofs.Common.{◌≡◌, ◌<◌, ◌⊎◌, ◌++◌, ◌∷◌, ℕ, List, [], Ok, Err, IsOk, Option, Some, None, IfSome, refl, sym, ap, subst, inl, inr, arith, ◌∙◌, Result, codes}
use Rattle.std.proofs.lemmas.Bool.{false≢true}
use Rattle.std.specs.Fmt.{digits}
use Rattle.std.specs.Io.KnownBytes.{Appends}
use Rattle.lt_modes.specs.Modes.{conflicts}
use Rattle.lt_text.specs.Text as text
use Rattle.lt_io.specs.Streams.{AppendsPart, CountsFaults, Rose, SourceState}
use Rattle.lt_call.specs.Outcomes.{IsRefused}
use Rattle.lt_nest.specs.Forest.{is_ancestor}
use Rattle.lt_nest.specs.Locks.{pass, first_free, serve_set}
use Rattle.lt_nest_lines.specs.declared.answer.Answer.{Answer}
use Rattle.lt_nest_lines.specs.declared.answer.Answer.TheVariants.{Done, Usage, Refused, TooLong, ReadFault, WriteFault, NoMemory}
use Rattle.lt_nest_lines.specs.Answers.{outcome_of}
use Rattle.lt_nest_lines.specs.Input.{InputData, input_after_line, input_of, line_count, no_input, read_further, read_lines_from}
use Rattle.lt_nest_lines.specs.Input as input
use Rattle.lt_nest_lines.specs.Written.{report_text}
use Rattle.lt_nest_lines.specs.Written as written
use Rattle.lt_nest_lines.specs.Serves.{IsTextOf, IsWritten, IsUnfit, LinesMayWantMemory, LinesWantMemory}
use Rattle.lt_law_pinned.specs.PlainCalls.{PlainCall, ReadsPlain, PlainlyTold}
use Rattle.lt_law_pinned.specs.NestCalls.{NestCodesAre, NestTextsAre, IsNestCall, WritesNest, RefusesNest, NestsTold, each_word, each_word_text, one_waits, one_waits_text, no_such_set, refused_first}
use Rattle.lt_law_pinned.proofs.PlainCallsOpened.{plainly_told, part_so, appended, seven_text}

pub nest_codes_are : NestCodesAre
nest_codes_are = record {
  done = refl;
  usage = refl;
  refused = refl;
  too_long = refl;
  read_fault = refl;
  write_fault = refl;
  no_memory = refl;
  sets = refl;
  transactions = refl;
  lines = refl;
  input = refl;
}

pub nest_texts_are : NestTextsAre
nest_texts_are = record {
  done = refl;
  usage = refl;
  refused = ap (λ (digits : List ℕ). codes "locknest: line " ++ digits) seven_text;
  too_long = refl;
  read_fault = refl;
  write_fault = refl;
  no_memory = refl;
}

-- what is written of the bytes, or the first line that is refused
abbrev pub text_or_line : Result InputData ℕ → Result (List ℕ) ℕ
text_or_line (Ok d) = Ok (report_text d)
text_or_line (Err line) = Err line

same_text : (a b : List ℕ) (r : Result (List ℕ) ℕ) → r ≡ Ok a → r ≡ Ok b → a ≡ b
same_text a b r e f = cc

same_line : (a b : ℕ) (r : Result (List ℕ) ℕ) → r ≡ Err a → r ≡ Err b → a ≡ b
same_line a b r e f = cc

text_not_line : (a : List ℕ) (b : ℕ) (r : Result (List ℕ) ℕ) → r ≡ Ok a → r ≡ Err b → ⊥
text_not_line a b r e f = cc

each_written : text_or_line (input_of each_word) ≡ Ok each_word_text
unfolding conflicts text.cut_at text.lines text.words is_ancestor pass first_free serve_set input.input_after_line input.read_lines_from written.after_orders written.orders_text digits
each_written = refl

waits_written : text_or_line (input_of one_waits) ≡ Ok one_waits_text
unfolding conflicts text.cut_at text.lines text.words is_ancestor pass first_free serve_set input.input_after_line input.read_lines_from written.after_orders written.orders_text digits
waits_written = refl

nothing_written : text_or_line (input_of []) ≡ Ok (codes "end 0\n")
unfolding text.cut_at text.lines input.read_lines_from written.after_orders written.orders_text digits
nothing_written = refl

no_such_refused : text_or_line (input_of no_such_set) ≡ Err 4
unfolding text.cut_at text.lines text.words input.input_after_line input.read_lines_from
no_such_refused = refl

twice_refused : text_or_line (input_of (codes "set s\np begin\np begin\n")) ≡ Err 3
unfolding text.cut_at text.lines text.words input.input_after_line input.read_lines_from
twice_refused = refl

-- a text that is written of these bytes is this
text_so : (bytes text now : List ℕ) → text_or_line (input_of bytes) ≡ Ok text → IsTextOf bytes now → now ≡ text
text_so bytes text now is h =
    same_text now text (text_or_line (input_of bytes)) (ap text_or_line h.1 ∙ ap (λ (t : List ℕ). Ok t) (sym h.2)) is

done_of : (c : PlainCall Answer) (bytes : List ℕ) → ReadsPlain IsNestCall outcome_of bytes c → c.answer ≡ Done
    → (text : List ℕ) × IsTextOf bytes text × Appends c.sink.held c.sink_after.held text
done_of c bytes reads e =
    let done = reads.serves.done (ap outcome_of e) in
    (done.0, subst (λ (left : Option (List ℕ)). IsWritten left done.0) reads.input done.1, done.2)

writes : (bytes text : List ℕ) → text_or_line (input_of bytes) ≡ Ok text → WritesNest bytes text
writes bytes text is c old new h held =
    let done = done_of c bytes h.0 h.1 in
    appended c.sink.held c.sink_after.held old new done.0 held.0 held.1 done.2 ∙ ap (λ (t : List ℕ). old ++ t) (text_so bytes text done.0 is done.1)

-- a line that is refused of these bytes
refused_in : (c : PlainCall Answer) (bytes : List ℕ) (line : ℕ) → ReadsPlain IsNestCall outcome_of bytes c → c.answer ≡ Refused line
    → text_or_line (input_of bytes) ≡ Err line
refused_in c bytes line reads e =
    let refused = reads.serves.refused (subst (λ (a : Answer). IsRefused (outcome_of a)) (sym e) tt) in
    let unfit : IsUnfit (Some bytes) (Refused line) =
    subst (λ (a : Answer). IsUnfit (Some bytes) a) e (subst (λ (left : Option (List ℕ)). IsUnfit left c.answer) reads.input refused) in
    ap text_or_line unfit

refuses : (bytes : List ℕ) (line : ℕ) → text_or_line (input_of bytes) ≡ Err line → RefusesNest bytes line
refuses bytes line is = record {
  first = λ c k h. same_line k line (text_or_line (input_of bytes)) (refused_in c bytes k h.0 h.1) is;
  never_done = λ c h.
      let done = done_of c bytes h.0 h.1 in
      text_not_line (report_text done.1.0) line (text_or_line (input_of bytes)) (ap text_or_line done.1.1) is;
}

-- the first line says something and is refused, so none begins well
none_well : (line : List ℕ) (more first later : List (List ℕ)) (read : InputData) → line ∷ more ≡ first ++ later → input_after_line no_input line ≡ None
    → read_lines_from first 1 no_input ≡ Ok read → 0 < line_count read → ⊥
unfolding input.read_lines_from
none_well line more [] later read parts refused good some =
    let none : no_input ≡ read = cc in
    let zero : 0 < line_count no_input = subst (λ (d : InputData). 0 < line_count d) (sym none) some in
    omega (arith, zero)
none_well line more (x ∷ first) later read parts refused good some =
    let same : line ≡ x = cc in
    let step : input_after_line no_input x ≡ None = subst (λ (l : List ℕ). input_after_line no_input l ≡ None) same refused in
    let told : Err 1 ≡ Ok read = sym (ap (read_further 1 (read_lines_from first 2)) step) ∙ good in
    cc

first_lines : text.lines refused_first ≡ codes "p lock s read" ∷ codes "set s" ∷ []
unfolding text.cut_at text.lines
first_lines = refl

first_line : input_after_line no_input (codes "p lock s read") ≡ None
unfolding text.cut_at text.words input.input_after_line
first_line = refl

first_refused : input_of refused_first ≡ Err 1
unfolding text.cut_at text.lines text.words input.input_after_line input.read_lines_from
first_refused = refl

not_wanted : LinesMayWantMemory refused_first → ⊥
not_wanted (inl ok) = false≢true (subst (λ (r : Result InputData ℕ). IsOk r) first_refused ok)
not_wanted (inr well) =
    none_well (codes "p lock s read") (codes "set s" ∷ []) well.first well.later well.read (sym first_lines ∙ well.parts) first_line well.good well.some

no_memory : (c : PlainCall Answer) → ReadsPlain IsNestCall outcome_of refused_first c → LinesWantMemory c.source c.source_after → c.source.ends ≡ 0
    → c.source_after.ends ≡ 1 → ⊥
no_memory c reads (inl part) none one = omega (arith, part.no_end, none, one)
no_memory c reads (inr whole) none one = not_wanted (subst (λ (left : Option (List ℕ)). IfSome left LinesMayWantMemory) reads.input whole.1)

pub nests_told : NestsTold
nests_told = record {
  nothing_text = writes [] (codes "end 0\n") nothing_written;
  each_text = writes each_word each_word_text each_written;
  waits_text = writes one_waits one_waits_text waits_written;
  part = λ c old new h held.
      let fault = h.0.serves.write_fault (ap outcome_of h.1) in
      let text = subst (λ (left : Option (List ℕ)). IsWritten left fault.0) h.0.input fault.1 in
      part_so c.sink.held c.sink_after.held old new one_waits_text held.0 held.1
      (subst (λ (t : List ℕ). AppendsPart c.sink.held c.sink_after.held t) (text_so one_waits one_waits_text fault.0 waits_written text) fault.2);
  unknown_set = refuses no_such_set 4 no_such_refused;
  begun_twice = refuses (codes "set s\np begin\np begin\n") 3 twice_refused;
  no_memory = λ c h none one. no_memory c h.0 (h.0.serves.memory (ap outcome_of h.1)) none one;
  never_refused = λ c line h.
      text_not_line one_waits_text line (text_or_line (input_of one_waits)) waits_written (refused_in c one_waits line h.0 h.1);
}

none_refused : (answer : Answer) → IsRefused (outcome_of answer) → IsUnfit (Some one_waits) answer → ⊥
none_refused (Refused line) is h = text_not_line one_waits_text line (text_or_line (input_of one_waits)) waits_written (ap text_or_line h)
none_refused Done is h = h
none_refused Usage is h = h
none_refused TooLong is h = h
none_refused ReadFault is h = h
none_refused WriteFault is h = h
none_refused NoMemory is h = h

pub nest_plainly_told : PlainlyTold IsNestCall outcome_of 1048576 one_waits
nest_plainly_told = plainly_told outcome_of IsWritten IsUnfit LinesWantMemory 1048576 one_waits refl none_refused came
  where
    came : (before after : SourceState) → LinesWantMemory before after → Rose before.given after.given ⊎ CountsFaults 1 before.ends after.ends
    came before after (inl part) = inl part.some
    came before after (inr whole) = inr whole.0.ended
