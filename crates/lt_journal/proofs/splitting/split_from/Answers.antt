use Rattle.std.proofs.Common.{◌≡◌, ◌+◌, ◌∷◌, suc, false, List, ℕ, length, drop, length-drop, sym, ap, ◌∙◌, arith}
use Rattle.std.specs.List.{position_from}
use Rattle.lt_text.specs.Text.{lines}
use Rattle.lt_journal.specs.Split.{is_journal_line, after_first_line, after_lines}
use Rattle.lt_journal.proofs.Plain.{first_line}
use Rattle.lt_journal.proofs.splitting.split_from.Goals as goal

pub loop-line-init : goal.loop-line-init
loop-line-init c =
    let bytes = c.args.bytes.now in
    let passed = c.requires.passed in
    let rest : c.split_at.result.1.now ≡ drop c.args.from bytes = c.split_at.ensures.back in
    record {
      passed = rest ∙ passed.passed;
      none = passed.none ∙ ap (λ (b : List ℕ). position_from is_journal_line c.args.before (lines b)) (sym rest);
      count = omega (arith, passed.count_is, ap (λ (b : List ℕ). length (lines b)) rest);
      few = omega (arith, passed.within, passed.few, length-drop c.args.from bytes, ap (λ (b : List ℕ). length b) rest);
    }

pub overflow_sub-result-then-is_journal_line : goal.overflow_sub-result-then-is_journal_line
overflow_sub-result-then-is_journal_line c =
    let first = first_line c.loop-line.rest.now _ _ c.in-Some.ensures.lines in
    omega (arith, first.shorter, c.loop-line.invariant.few, ap (λ (bytes : List ℕ). length bytes) c.in-Some.ensures.after)

pub loop-line-smaller : goal.loop-line-smaller
loop-line-smaller c =
    let first = first_line c.loop-line.rest.now _ _ c.in-Some.ensures.lines in
    omega (arith, first.shorter, ap (λ (bytes : List ℕ). length bytes) c.in-Some.ensures.after)

pub loop-line-preserved : goal.loop-line-preserved
loop-line-preserved c =
    let n = c.loop-line.lines in
    let after = c.in-Some.ensures.after in
    let first = first_line c.loop-line.rest.now _ _ c.in-Some.ensures.lines in
    let lines_are : lines c.loop-line.rest.now ≡ c.in-Some.line.now ∷ lines c.in-Some.after.now =
    c.in-Some.ensures.lines ∙ ap (λ (ls : List (List ℕ)). c.in-Some.line.now ∷ ls) (sym (ap lines after ∙ first.others)) in
    let one : suc n ≡ n + 1 = omega arith in
    let other : is_journal_line c.in-Some.line.now ≡ false = sym c.is_journal_line.ensures ∙ c.if-is_journal_line.false in
    record {
      passed = after ∙ (ap after_first_line c.loop-line.invariant.passed ∙ ap (λ (k : ℕ). after_lines k c.args.bytes.now) one);
      none = c.loop-line.invariant.none ∙ (ap (λ (ls : List (List ℕ)). position_from is_journal_line n ls) lines_are ∙ rw other);
      count = omega (arith, c.loop-line.invariant.count, ap (λ (ls : List (List ℕ)). length ls) lines_are);
      few = omega (arith, first.shorter, c.loop-line.invariant.few, ap (λ (bytes : List ℕ). length bytes) after);
    }
