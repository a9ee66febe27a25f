use Rattle.std.proofs.Common.{sym, ap, subst, ◌∙◌, arith}
use Rattle.lt_text.specs.Text.{lines}
use Rattle.lt_script.specs.Reading.{at_end, read_body}
use Rattle.lt_script.specs.Steps.{ArePlain}
use Rattle.lt_script.proofs.PrintedLines.{plain_lines}
use Rattle.lt_script.proofs.ShortScripts.{read_is_short}
use Rattle.lt_script.proofs.RoundTrips.{read_fault, read_more, read_end}
use Rattle.lt_script.proofs.reading.read.Goals as goal

pub returns-in-Some-fault-clause-read : goal.returns-in-Some-fault-clause-read
returns-in-Some-fault-clause-read c =
    let step = rw c.in-Some-fault.is at c.in-Ok.ensures in
    sym c.loop-line.invariant.same ∙ read_fault c.body_of-body.result.version (lines c.loop-line.rest.now) (lines c.in-Some.after.now) c.in-Some.line.now c.loop-line.number c.loop-line.script c.in-Some-fault.fault c.in-Some.ensures.lines step

pub loop-line-init : goal.loop-line-init
loop-line-init c = record {
  same = sym (ap read_body c.body_of-body.ensures.body);
  plain = λ yes. plain_lines c.body_of-body.result.rest.now (sym c.is_plain_text-is_plain.ensures ∙ yes);
  count = c.body_of-body.ensures.count;
}

pub read_line-requires-clause-plain : goal.read_line-requires-clause-plain
read_line-requires-clause-plain c = λ yes. (subst ArePlain c.in-Some.ensures.lines (c.loop-line.invariant.plain yes)).0

pub loop-line-preserved : goal.loop-line-preserved
loop-line-preserved c =
    let step = rw c.in_default-fault.is at c.in-Ok.ensures in
    record {
      same = sym (read_more c.body_of-body.result.version (lines c.loop-line.rest.now) (lines c.in-Some.after.now) c.in-Some.line.now c.loop-line.number c.loop-line.script c.read_line.new.script c.in-Some.ensures.lines step) ∙ c.loop-line.invariant.same;
      plain = λ yes. (subst ArePlain c.in-Some.ensures.lines (c.loop-line.invariant.plain yes)).1;
      count = omega (arith, c.in-Some.ensures.shorter);
    }

pub returns-in-Some-script-clause-read : goal.returns-in-Some-script-clause-read
returns-in-Some-script-clause-read c =
    sym c.loop-line.invariant.same ∙ read_end c.body_of-body.result.version (lines c.loop-line.rest.now) c.loop-line.number c.loop-line.script c.in_default.ensures.lines ∙ ap (at_end c.loop-line.number) c.in-Some-script.is

pub returns-in-Some-script-clause-short : goal.returns-in-Some-script-clause-short
returns-in-Some-script-clause-short c =
    let read =
    sym c.loop-line.invariant.same ∙ read_end c.body_of-body.result.version (lines c.loop-line.rest.now) c.loop-line.number c.loop-line.script c.in_default.ensures.lines ∙ ap (at_end c.loop-line.number) c.in-Some-script.is in
    read_is_short c.args.bytes.now c.in-Some-script.script read

pub returns-in-None-clause-read : goal.returns-in-None-clause-read
returns-in-None-clause-read c =
    sym c.loop-line.invariant.same ∙ read_end c.body_of-body.result.version (lines c.loop-line.rest.now) c.loop-line.number c.loop-line.script c.in_default.ensures.lines ∙ ap (at_end c.loop-line.number) c.in-None.is
