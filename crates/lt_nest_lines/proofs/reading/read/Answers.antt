use Rattle.std.proofs.Common.{rules, ◌≡◌, sym, subst, ap, ◌∙◌, arith, Bool, true, false}
use Rattle.lt_text.specs.Text.{lines}
use Rattle.lt_nest_lines.specs.Input.{AddsLine, InputData, IsAdded, input_after_line, read_lines_from}
use Rattle.lt_nest_lines.proofs.ReadLines.{read_refused, read_more, read_end, one_read, none_read, added_well, HasRead}
use Rattle.lt_nest_lines.proofs.reading.read.Goals as goal

pub loop-line-init : goal.loop-line-init
loop-line-init c =
    let all = lines c.args.bytes.now in
    record {
      same = ap (read_lines_from all 1) c.new-input.ensures;
      read = subst (λ (d : InputData). HasRead all all d) (sym c.new-input.ensures) (none_read all);
      count = omega arith;
    }

pub returns-in_default-read_line-clause-memory : goal.returns-in_default-read_line-clause-memory
returns-in_default-read_line-clause-memory c = λ _.
    let added : IsAdded (input_after_line c.loop-line.input c.in-Some.line.now) = search rules in
    added_well (lines c.args.bytes.now) (lines c.loop-line.rest.now) (lines c.in-Some.after.now) c.in-Some.line.now
    c.loop-line.input c.loop-line.invariant.read c.in-Some.ensures.lines added

pub returns-then-not-taken-clause-read : goal.returns-then-not-taken-clause-read
returns-then-not-taken-clause-read c =
    let no : c.in-Ok.taken ≡ false = search rules in
    let step = subst (λ (b : Bool). AddsLine b c.read_line.new.input (input_after_line c.loop-line.input c.in-Some.line.now)) no c.in-Ok.ensures.taken in
    sym c.loop-line.invariant.same ∙ read_refused (lines c.loop-line.rest.now) (lines c.in-Some.after.now) c.in-Some.line.now c.loop-line.number c.loop-line.input c.in-Some.ensures.lines step

pub loop-line-preserved : goal.loop-line-preserved
loop-line-preserved c =
    let yes : c.in-Ok.taken ≡ true = search rules in
    let step = subst (λ (b : Bool). AddsLine b c.read_line.new.input (input_after_line c.loop-line.input c.in-Some.line.now)) yes c.in-Ok.ensures.taken in
    record {
      same = sym (read_more (lines c.loop-line.rest.now) (lines c.in-Some.after.now) c.in-Some.line.now c.loop-line.number c.loop-line.input c.read_line.new.input c.in-Some.ensures.lines step) ∙ c.loop-line.invariant.same;
      read = one_read (lines c.args.bytes.now) (lines c.loop-line.rest.now) (lines c.in-Some.after.now) c.in-Some.line.now c.loop-line.input c.read_line.new.input c.loop-line.invariant.read c.in-Some.ensures.lines step;
      count = omega (arith, c.in-Some.ensures.shorter);
    }

pub returns-clause-read : goal.returns-clause-read
returns-clause-read c = sym c.loop-line.invariant.same ∙ read_end (lines c.loop-line.rest.now) c.loop-line.number c.loop-line.input c.in_default.ensures.lines
