use Rattle.std.proofs.Common.{◌≡◌, ◌∙◌, ◌+◌, ◌-◌, ◌≤◌, true, false, take, drop, sym, ap, subst, arith, length-take-le}
use Rattle.lt_text.specs.Text.{without_return}
use Rattle.lt_journal.specs.Split.{is_journal_line}
use Rattle.lt_law_journals.specs.Checking.{IsSettled}
use Rattle.lt_checker.proofs.LastLines.{line_whole, in_three, begins_in, next_line_end, next_part, last_part, ends_at, none_after}
use Rattle.lt_checker.proofs.Passed.{last_passed, passed_in, whole_line, no_journal_at, journal_at, one_more}
use Rattle.lt_checker.proofs.Moving.{few_lines}
use Rattle.lt_checker.proofs.head.last_line.Goals as goal

pub overflow_add-last : goal.overflow_add-last
overflow_add-last c =
    let bytes = c.args.bytes.now in
    let at = c.loop-more.last.place in
    let kept = c.loop-more.invariant in
    omega (
      arith,
      kept.before,
      few_lines (take at bytes),
      length-take-le at bytes (omega (arith, kept.place, kept.seen)),
      kept.place,
      kept.seen,
      c.requires.few,
    )

pub loop-more-preserved : goal.loop-more-preserved
loop-more-preserved c =
    let bytes = c.args.bytes.now in
    let from = c.loop-more.from in
    let more = c.in-Some.more in
    let at = c.loop-more.last.place in
    let kept = c.loop-more.invariant in
    let end = from + more in
    let next = ends_at bytes from more c.in-Some.ensures in
    let before : at ≤ end = omega (arith, kept.place) in
    let here = next_part bytes from more at next.none kept.line in
    let whole = whole_line bytes at end before next.inside next.ends here in
    let other : is_journal_line (without_return (take (end - at) (drop at bytes))) ≡ false =
    ap is_journal_line (sym c.trim_return.ensures) ∙ (sym c.is_journal_line.ensures ∙ c.if-is_journal_line.false) in
    record {
      place = omega arith;
      seen = omega (arith, next.inside);
      line = next_line_end bytes end at before next.inside next.ends here (no_journal_at bytes at end whole other);
      before = one_more bytes at end c.loop-more.last.before before next.inside here whole kept.before;
    }

pub returns-then-is_journal_line-clause-passed : goal.returns-then-is_journal_line-clause-passed
returns-then-is_journal_line-clause-passed c =
    let bytes = c.args.bytes.now in
    let from = c.loop-more.from in
    let more = c.in-Some.more in
    let at = c.loop-more.last.place in
    let kept = c.loop-more.invariant in
    let next = ends_at bytes from more c.in-Some.ensures in
    passed_in bytes (from + more) at c.loop-more.last.before (omega (arith, kept.place)) (omega (arith, next.inside)) (next_part bytes from more at next.none kept.line) kept.before

pub returns-then-is_journal_line-clause-settled : goal.returns-then-is_journal_line-clause-settled
returns-then-is_journal_line-clause-settled c =
    let bytes = c.args.bytes.now in
    let from = c.loop-more.from in
    let more = c.in-Some.more in
    let at = c.loop-more.last.place in
    let kept = c.loop-more.invariant in
    let end = from + more in
    let next = ends_at bytes from more c.in-Some.ensures in
    let before : at ≤ end = omega (arith, kept.place) in
    let here = next_part bytes from more at next.none kept.line in
    let whole = whole_line bytes at end before next.inside next.ends here in
    let is : is_journal_line (without_return (take (end - at) (drop at bytes))) ≡ true =
    ap is_journal_line (sym c.trim_return.ensures) ∙ (sym c.is_journal_line.ensures ∙ c.if-is_journal_line.true) in
    λ _. subst IsSettled (in_three bytes at end before)
    (c.law_settled.ensures (take at bytes) (take (end + 1 - at) (drop at bytes)) (drop (end + 1) bytes) (begins_in bytes end at before here)
    (line_whole bytes at end before next.inside next.ends) (journal_at bytes at end whole is))

pub returns-clause-passed : goal.returns-clause-passed
returns-clause-passed c =
    let bytes = c.args.bytes.now in
    let from = c.loop-more.from in
    let kept = c.loop-more.invariant in
    last_passed bytes c.loop-more.last.place c.loop-more.last.before
    (last_part bytes from c.loop-more.last.place (none_after bytes from c.in_default.ensures) kept.line) kept.before

pub returns-clause-line : goal.returns-clause-line
returns-clause-line c =
    let bytes = c.args.bytes.now in
    let from = c.loop-more.from in
    λ _. last_part bytes from c.loop-more.last.place (none_after bytes from c.in_default.ensures) c.loop-more.invariant.line
