-- What follows of the word `order`, and of an ordered script.
use Rattle.std.proofs.Common.{◌≡◌, ◌∙◌, ◌<◌, arith, ℕ, zero, suc, List, ◌++◌, Ok, refl, ap, ◌≢◌, ◌+◌, Some, codes, length}
use Rattle.lt_modes.specs.Script.{ScriptData}
use Rattle.lt_spec.specs.Ordered.{IsOrdered, first_bad}
use Rattle.lt_io.specs.Streams.{RoseBy}
use Rattle.lt_text.specs.Text as text
use Rattle.lt_script.specs.Reading.{read_of}
use Rattle.lt_script.specs.Reading as reading
use Rattle.lt_script.specs.declared.fault.ScriptFault.{ScriptFault}
use Rattle.lt_words.specs.declared.command.Command.{Command}
use Rattle.lt_words.specs.declared.command.Command.TheVariants.{Run, SimFirst, Sim}
use Rattle.lt_call.specs.Scripts.{HasFault}
use Rattle.lt_serve.specs.declared.status.Status.TheVariants.{Done, Stuck, NoMemory}
use Rattle.lt_serve.specs.TopCall.{order_answer}
use Rattle.lt_serve.specs.declared.limits.TheConstants.{MAX_INPUT}
use Rattle.lt_serve.specs.declared.status.Status.{Status}
use Rattle.lt_serve.specs.Serves.{IsGood, GoesWell}
use Rattle.lt_law_pinned.specs.Examples.{one_lock, one_lock_script}
use Rattle.lt_law_pinned.specs.OtherAnswers.{OrderSays, lock_given_up, given_up_script, fresh_source, read_whole, EndsSay}
use Rattle.lt_law_pinned.proofs.TwoWritersSay.{same_script, one_lock_read, script_or_fault}
use Rattle.lt_law_pinned.proofs.CheckAnswers.{no_rise, goes_well, good_first, good_drawn, good_threads}

pub given_up_read : read_of lock_given_up ≡ Ok given_up_script
unfolding reading.script_body reading.read_from text.lines text.cut_at reading.line_step text.words
given_up_read = refl

pub given_up_ordered : IsOrdered given_up_script
given_up_ordered zero inside = refl
given_up_ordered (suc client) inside = let few : suc client < 1 = inside in absurd (omega (arith, few))

-- the line that is written of a script
abbrev line_of : ScriptData → List ℕ
line_of script = order_answer script (first_bad script)

kept_line : line_of one_lock_script ≡ codes "not ordered a\n"
kept_line = refl

given_up_line : line_of given_up_script ≡ codes "ordered\n"
given_up_line = refl

pub order_says : OrderSays
order_says = record {
  kept = λ run old new t.
      let same = same_script t.1.script one_lock_script (read_of one_lock) t.1.denoted one_lock_read in
      t.2 ∙ ap (λ (text : List ℕ). old ++ text) (t.1.told ∙ (ap line_of same ∙ kept_line));
  given_up = λ run old new t.
      let same = same_script t.1.script given_up_script (read_of lock_given_up) t.1.denoted given_up_read in
      t.2 ∙ ap (λ (text : List ℕ). old ++ text) (t.1.told ∙ (ap line_of same ∙ given_up_line));
  no_run = λ run old new t. t.1.no_run;
  never_stuck = λ run old new t. not_done t.1.done;
  never_first = λ h. h.stuck refl (given_up_script, given_up_read, given_up_ordered);
  never_drawn = λ seed h. h.stuck refl (given_up_script, given_up_read, given_up_ordered);
  never_on_threads = λ h. h.stuck refl (given_up_script, given_up_read, given_up_ordered);
}
  where
    not_done : Stuck ≡ Done → ⊥
    not_done e = cc

-- What follows where no run is cut.

-- nothing goes wrong with a good input
well_with : (command : Command) (input : List ℕ) (answer : Status) → IsGood command (fresh_source (Some input)) (read_whole input) → answer ≢ NoMemory
    → GoesWell (Some command) answer (fresh_source (Some input)) (read_whole input) 0 0
well_with command input answer good there = goes_well command answer (fresh_source (Some input)) (read_whole input) (λ reads. good) there

short_given_up : RoseBy (MAX_INPUT + 1) 0 (length lock_given_up) → ⊥
short_given_up h = omega (arith, h)

given_up_without_fault : (fault : ScriptFault) → HasFault (Some lock_given_up) fault → ⊥
given_up_without_fault fault h = script_or_fault given_up_script fault (read_of lock_given_up) given_up_read h

given_up_first : IsGood SimFirst (fresh_source (Some lock_given_up)) (read_whole lock_given_up)
given_up_first = record { no_read_fault = no_rise; not_too_long = short_given_up; no_fault = given_up_without_fault; no_bad_line = λ e. cc }

given_up_drawn : (seed : ℕ) → IsGood (Sim seed) (fresh_source (Some lock_given_up)) (read_whole lock_given_up)
given_up_drawn seed = record { no_read_fault = no_rise; not_too_long = short_given_up; no_fault = given_up_without_fault; no_bad_line = λ e. cc }

given_up_threads : IsGood Run (fresh_source (Some lock_given_up)) (read_whole lock_given_up)
given_up_threads = record { no_read_fault = no_rise; not_too_long = short_given_up; no_fault = given_up_without_fault; no_bad_line = λ e. cc }

pub ends_say : EndsSay
ends_say = record {
  first_rests = λ answer ends there. ends.done_or_stuck (well_with SimFirst one_lock answer good_first there);
  drawn_rests = λ seed answer ends there. ends.done_or_stuck (well_with (Sim seed) one_lock answer (good_drawn seed) there);
  threads_rest = λ answer ends there. ends.done_or_stuck (well_with Run one_lock answer good_threads there);
  first_in_order = λ answer ends there.
      ends.ordered (well_with SimFirst lock_given_up answer given_up_first there) (given_up_script, given_up_read, given_up_ordered);
  drawn_in_order = λ seed answer ends there.
      ends.ordered (well_with (Sim seed) lock_given_up answer (given_up_drawn seed) there) (given_up_script, given_up_read, given_up_ordered);
  threads_in_order = λ answer ends there.
      ends.ordered (well_with Run lock_given_up answer given_up_threads there) (given_up_script, given_up_read, given_up_ordered);
  never_cut = λ command input node ends. ends.never_cut node refl;
}
