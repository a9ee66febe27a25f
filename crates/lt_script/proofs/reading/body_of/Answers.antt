use Rattle.std.proofs.Common.{sym, ◌∙◌, arith, ne_eqb}
use Rattle.lt_text.specs.Text.{lines}
use Rattle.lt_script.proofs.RoundTrips.{body_skipped, body_later, body_first, body_end}
use Rattle.lt_script.proofs.reading.body_of.Goals as goal

pub returns-then-version-eq1-clause-body : goal.returns-then-version-eq1-clause-body
returns-then-version-eq1-clause-body c =
    c.loop-line.invariant.same
    ∙ body_first (lines c.loop-line.rest.now) (lines c.in-Some.after.now) c.in-Some.line.now c.loop-line.number c.version_said-version.result c.in-Some.ensures.lines (sym c.if-not-is_skipped.ensures)
    c.version_said-version.ensures.said c.if-version-eq1.true

pub returns-then-not-is_skipped-clause-body : goal.returns-then-not-is_skipped-clause-body
returns-then-not-is_skipped-clause-body c =
    c.loop-line.invariant.same
    ∙ body_later (lines c.loop-line.rest.now) (lines c.in-Some.after.now) c.in-Some.line.now c.loop-line.number c.version_said-version.result c.in-Some.ensures.lines (sym c.if-not-is_skipped.ensures)
    c.version_said-version.ensures.said (ne_eqb c.version_said-version.result 1 c.if-version-eq1.false)

pub loop-line-preserved : goal.loop-line-preserved
loop-line-preserved c = record {
  same = c.loop-line.invariant.same ∙ body_skipped (lines c.loop-line.rest.now) (lines c.in-Some.after.now) c.in-Some.line.now c.loop-line.number c.in-Some.ensures.lines (sym c.if-not-is_skipped.ensures);
  count = omega (arith, c.in-Some.ensures.shorter);
}

pub returns-clause-body : goal.returns-clause-body
returns-clause-body c = c.loop-line.invariant.same ∙ body_end (lines c.loop-line.rest.now) c.loop-line.number c.in_default.ensures.lines
