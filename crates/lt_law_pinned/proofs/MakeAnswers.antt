-- The texts of the small runs.
use Rattle.std.proofs.Common.{arith, ◌≡◌, List, [], ◌∷◌, refl, ap, ◌∙◌, ℕ, ◌++◌, None, Some, codes, decimal}
use Rattle.std.proofs.lemmas.Fmt.{decimal_digit}
use Rattle.std.proofs.lemmas.Bool.{false≢true}
use Rattle.lt_modes.specs.declared.mode.Mode.TheVariants.{Write, Read}
use Rattle.lt_modes.specs.declared.event.Event.TheVariants.{Grant, Wait}
use Rattle.lt_modes.specs.declared.moves.Step.TheVariants.{Act}
use Rattle.lt_modes.specs.Modes.{conflicts}
use Rattle.lt_modes.specs.declared.command.Command.TheVariants.{Unlock}
use Rattle.lt_modes.specs.Script.{ScriptData}
use Rattle.lt_script.specs.Printing.{print_of}
use Rattle.lt_script.specs.Printing as printing
use Rattle.lt_gen.specs.Generator.{four_sets, script_of}
use Rattle.lt_gen.specs.Generator as generator
use Rattle.lt_journal.specs.declared.line.Line.{Line}
use Rattle.lt_journal.specs.declared.line.Line.TheVariants.{Move as MoveLine, Event as EventLine, Held, Waiting, Owner, End, Cut as CutLine}
use Rattle.lt_journal.specs.RunLines.{run_lines, text_of, lines_text}
use Rattle.lt_serve.specs.declared.status.Status.TheVariants.{Done, Stuck}
use Rattle.lt_serve.specs.TopCall.{greatest_script}
use Rattle.lt_law_pinned.specs.Examples.{one_lock_script, one_lock_journal, the_move, two_writers_script, two_writers_journal, first_move, both_moves, cut_journal}
use Rattle.lt_law_pinned.specs.OtherAnswers.{MakeSays, SoakSays}

pub zero_text : decimal 0 ≡ codes "0"
zero_text = decimal_digit 0 (omega arith)

pub one_text : decimal 1 ≡ codes "1"
one_text = decimal_digit 1 (omega arith)

pub two_text : decimal 2 ≡ codes "2"
two_text = decimal_digit 2 (omega arith)

pub three_text : decimal 3 ≡ codes "3"
three_text = decimal_digit 3 (omega arith)

pub one_lock_text : text_of one_lock_script (the_move ∷ []) None ≡ one_lock_journal
unfolding conflicts
one_lock_text = rw one_text (rw zero_text refl)

-- its lines, one by one
abbrev two_writers_lines : List Line
two_writers_lines =
    MoveLine 1 0 (Act 0) ∷ EventLine (Grant 0 0 Write) ∷ MoveLine 2 0 (Act 1) ∷ EventLine (Wait 1 0 Write)
    ∷ Held 0 0 Write 1 ∷ Waiting 1 0 Write ∷ Owner 0 0 0 ∷ End 2 ∷ []

two_writers_are : run_lines two_writers_script both_moves None ≡ two_writers_lines
unfolding conflicts
two_writers_are = refl

two_writers_spelled : lines_text two_writers_script two_writers_lines ≡ two_writers_journal
two_writers_spelled = rw one_text (rw two_text (rw zero_text refl))

pub two_writers_text : text_of two_writers_script both_moves None ≡ two_writers_journal
two_writers_text = ap (lines_text two_writers_script) two_writers_are ∙ two_writers_spelled

pub cut_text : text_of two_writers_script first_move (Some 0) ≡ cut_journal
unfolding conflicts
cut_text = rw one_text (rw zero_text refl)

-- What `make` says with small numbers, and `soak` where it is cut.

abbrev the_script : ScriptData
the_script = record {
  version = 1;
  nodes = 1;
  sets = four_sets;
  clients = record { name = codes "c0"; node = 0 } ∷ [];
  commands = (0, Unlock 0 Read) ∷ [];
}

made : script_of 1 1 1 1 7 ≡ the_script
unfolding generator.clients_of generator.requests_in
made = rw zero_text refl

printed : print_of the_script ≡ codes "nodes 1\nset s0\nset s1\nset s2\nset s3\nclient c0 at 0\nc0 unlock s0 read\n"
unfolding printing.print_of
printed = rw zero_text (rw one_text refl)

pub make_says : MakeSays
make_says = record {
  done = λ run old new t. t.2 ∙ ap (λ (text : List ℕ). old ++ text) (t.1.2 ∙ (ap print_of made ∙ printed));
  no_run = λ run old new t. t.1.1;
  never_stuck = λ run old new t. not_done t.1.0;
  reads_nothing = refl;
  never_read_fault = λ left h. false≢true (h.read_fault refl);
  never_too_long = λ left h. false≢true (h.too_long refl);
}
  where
    not_done : Stuck ≡ Done → ⊥
    not_done e = cc

cut_line : (script : ScriptData) → lines_text script (CutLine 3 ∷ []) ≡ codes "cut 3\n"
cut_line script = rw three_text refl

pub soak_says : SoakSays
soak_says = record {
  cut = λ run old new t. t.2 ∙ ap (λ (text : List ℕ). old ++ text) (t.1.told ∙ cut_line (greatest_script 7));
  reads_nothing = refl;
}
