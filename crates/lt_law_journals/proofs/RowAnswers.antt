-- The small journals are answered so.
use Rattle.std.proofs.Common.{◌≡◌, ℕ, suc, List, [], ◌∷◌, ◌++◌, cond, codes, map, bytes_eq, Some, None, Result, Err, refl, sym, ap, ap₂, ◌∙◌, arith, decimal}
use Rattle.std.proofs.lemmas.Fmt.{decimal_digit}
use Rattle.lt_modes.specs.declared.mode.Mode.TheVariants.{Read}
use Rattle.lt_modes.specs.declared.event.Event.TheVariants.{Grant}
use Rattle.lt_modes.specs.Modes.{conflicts}
use Rattle.lt_spec.specs.World.{Logged}
use Rattle.lt_text.specs.Text.{cut_at, lines, before_space, later_fields, spaced}
use Rattle.lt_journal.specs.declared.line.Line.{Line}
use Rattle.lt_journal.specs.declared.line.Line.TheVariants.{Event as EventLine, Held, Owner, End}
use Rattle.lt_law_journals.specs.Checking.{written, checked, verdict, led_to, first_reader, read_on}
use Rattle.lt_law_journals.specs.Rows.{empty_script, short_script, short_run, EmptyRows, ShortRows}
use Rattle.lt_law_journals.proofs.Accepting.{reads_due}

zero_text : decimal 0 ≡ codes "0"
zero_text = decimal_digit 0 (omega arith)

one_text : decimal 1 ≡ codes "1"
one_text = decimal_digit 1 (omega arith)

-- what is due at the start of a script with no client
abbrev end_text : List ℕ → List ℕ
end_text number = spaced (codes "end" ∷ number ∷ [])

abbrev answer_by : List ℕ → List ℕ → Result (List Logged) ℕ
answer_by line number =
    verdict empty_script (led_to (first_reader empty_script) (cond (bytes_eq line (end_text number)) (Some (record { run = []; due = [] })) None))

abbrev answer_by_two : List ℕ → List ℕ → List ℕ → Result (List Logged) ℕ
answer_by_two line next number =
    verdict empty_script (read_on empty_script (led_to (first_reader empty_script) (cond (bytes_eq line (end_text number)) (Some (record { run = []; due = [] })) None)) next)

pub empty_rows : EmptyRows
unfolding cut_at lines before_space later_fields
empty_rows = record {
  one_line = ap (answer_by (codes "end 0")) zero_text;
  with_return = ap (answer_by (codes "end 0")) zero_text;
  return_at_end = ap (answer_by (codes "end 0")) zero_text;
  no_line_end = ap (answer_by (codes "end 0")) zero_text;
  return_inside = ap (answer_by (codes "end 0" ++ 13 ∷ codes "x")) zero_text;
  nothing = refl;
  one_line_more = ap (answer_by_two (codes "end 0") []) zero_text;
  long_line = refl;
}

-- the lines after the one move
held_text : written short_script (Held 0 0 Read 1) ≡ codes "held a s read 1"
held_text = ap (λ (n : List ℕ). spaced (codes "held" ∷ codes "a" ∷ codes "s" ∷ codes "read" ∷ n ∷ [])) one_text

owner_text : written short_script (Owner 0 0 0) ≡ codes "owner s 0 0"
owner_text = ap (λ (n : List ℕ). spaced (codes "owner" ∷ codes "s" ∷ n ∷ n ∷ [])) zero_text

last_text : written short_script (End 1) ≡ codes "end 1"
last_text = ap end_text one_text

abbrev some_due : List Line
some_due = EventLine (Grant 0 0 Read) ∷ Held 0 0 Read 1 ∷ Owner 0 0 0 ∷ []

abbrev all_due : List Line
all_due = EventLine (Grant 0 0 Read) ∷ Held 0 0 Read 1 ∷ Owner 0 0 0 ∷ End 1 ∷ []

some_lines : map (written short_script) some_due ≡ codes "grant a s read" ∷ codes "held a s read 1" ∷ codes "owner s 0 0" ∷ []
some_lines = ap₂ (λ (a b : List ℕ). codes "grant a s read" ∷ a ∷ b ∷ []) held_text owner_text

all_lines : map (written short_script) all_due ≡ codes "grant a s read" ∷ codes "held a s read 1" ∷ codes "owner s 0 0" ∷ codes "end 1" ∷ []
all_lines = ap₂ (λ (a : List (List ℕ)) (b : List ℕ). a ++ b ∷ []) some_lines last_text

pub short_rows : ShortRows
unfolding conflicts cut_at lines before_space later_fields
short_rows = record {
  right = ap (λ (ls : List (List ℕ)). checked short_script (codes "move 1 0 act a" ∷ ls)) (sym all_lines)
      ∙ ap (verdict short_script) (reads_due short_script short_run all_due [] 1 []).1;
  wrong_clock = refl;
  wrong_mode = refl;
  closes_early = refl;
  cut_run = refl;
  move_too_many = refl;
  last_missing = ap (λ (ls : List (List ℕ)). checked short_script (codes "move 1 0 act a" ∷ ls)) (sym some_lines)
      ∙ (ap (verdict short_script) (reads_due short_script short_run some_due (End 1 ∷ []) 1 []).1
      ∙ ap (λ (n : ℕ). Err (suc n)) (reads_due short_script short_run some_due (End 1 ∷ []) 1 []).2);
  line_more = ap (λ (ls : List (List ℕ)). checked short_script (codes "move 1 0 act a" ∷ ls ++ codes "end 1" ∷ [])) (sym all_lines)
      ∙ (ap (verdict short_script) (reads_due short_script short_run all_due [] 1 (codes "end 1" ∷ [])).1
      ∙ ap (λ (n : ℕ). Err (suc n)) (reads_due short_script short_run all_due [] 1 (codes "end 1" ∷ [])).2);
}
