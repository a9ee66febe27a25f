use Rattle.std.proofs.Common.{◌≡◌, ◌++◌, ◌∙◌, [], List, ap, ap₂, arith, subst, sym}
use Rattle.lt_spec.specs.World.{Logged}
use Rattle.lt_spec.specs.Script.{IsShort}
use Rattle.lt_journal.specs.declared.line.Line.{Line}
use Rattle.lt_journal.specs.RunLines.{first_lines}
use Rattle.lt_spec.specs.declared.moves.TheConstants.{MAX_MOVES}
use Rattle.lt_world.specs.Fields.{WorldData}
use Rattle.lt_law_journals.specs.Checking.{Place, first_place, closing_at_rest, HasCome}
use Rattle.lt_law_journals.proofs.Places.{first_begins}
use Rattle.lt_checker.specs.Due.{due_lines}
use Rattle.lt_checker.proofs.reader.Reader.new.Goals as goal

pub invariant_of-reader : goal.invariant_of-reader
invariant_of-reader c = rw c.in_ok-wording.ensures (c.in_err-push_first.ensures.is_script, c.requires, omega arith, tt)

pub invariant_of-reader-in_err-push_closing : goal.invariant_of-reader-in_err-push_closing
invariant_of-reader-in_err-push_closing c = rw c.in_ok-wording.ensures (c.in_ok-push_first.ensures.is_script, c.requires, omega arith, tt)

pub invariant_of-reader-2 : goal.invariant_of-reader-2
invariant_of-reader-2 c =
    let script = c.args.script.now in
    let world = c.in_ok-world.world in
    let short : IsShort script = c.requires in
    let later = c.push_closing.new.due.items in
    let due = due_lines script world.run 0 later in
    let world_is : world ≡ record { script = script; limit = MAX_MOVES; run = [] } = c.in_ok-world.ensures in
    let run_is = ap (λ (w : WorldData). w.run) world_is in
    let first : c.push_first.new.due.items ≡ first_lines script.version = c.in_ok-push_first.ensures.lines ∙ ap (λ (t : List Line). t ++ first_lines script.version) c.new-later.ensures.items in
    let due_is : due ≡ first_lines script.version ++ closing_at_rest script [] =
    ap (λ (run : List Logged). due_lines script run 0 later) run_is ∙
    c.in_ok-push_closing.ensures ∙ ap₂ (λ (t : List Line) (run : List Logged). t ++ closing_at_rest script run) first run_is in
    let at : first_place script ≡ record { run = world.run; due = due } = λ i. record { run = sym run_is i; due = sym due_is i } in rw c.in_ok-wording.ensures (
      c.in_ok-push_first.ensures.is_script,
      short,
      omega arith,
      record {
        is_script = c.in_ok-push_first.ensures.is_script;
        is_short = short;
        script_is = ap (λ (w : WorldData). w.script) world_is;
        limit = ap (λ (w : WorldData). w.limit) world_is;
        come = subst (λ (p : Place). HasCome script p) at ([], first_begins script);
      },
    )
