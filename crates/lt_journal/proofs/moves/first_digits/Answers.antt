use Rattle.std.proofs.Common.{◌≡◌, ◌∙◌, ◌+◌, ◌*◌, ◌<◌, true, length, get_or, sym, subst, arith}
use Rattle.std.specs.Char.{is_ascii_digit}
use Rattle.lt_journal.specs.Grammar.{AreFirstDigits}
use Rattle.lt_journal.proofs.MoveLines.{no_digits, digit_more, small_value}
use Rattle.lt_journal.proofs.moves.first_digits.Goals as goal

pub loop-count-init : goal.loop-count-init
loop-count-init c = no_digits c.args.words.now

pub loop-count-preserved : goal.loop-count-preserved
loop-count-preserved c =
    let words = c.args.words.now in
    let k = c.loop-count.count in
    let inside : k < length words = omega (arith, c.loop-count-test.true, c.min-end.ensures) in
    let few : k < 19 = omega (arith, c.loop-count-test.true, c.min-end.ensures) in
    let digit : is_ascii_digit (get_or words k 0) ≡ true = sym c.is_ascii_digit.ensures.value ∙ c.if-is_ascii_digit.true in
    subst (λ n. AreFirstDigits words (k + 1) (c.loop-count.number * 10 + n)) (sym c.from.ensures) (digit_more words k c.loop-count.number c.loop-count.invariant inside few digit)

pub overflow_mul-number : goal.overflow_mul-number
overflow_mul-number c =
    let few : c.loop-count.count < 19 = omega (arith, c.loop-count-test.true, c.min-end.ensures) in
    omega (arith, small_value c.args.words.now c.loop-count.count c.loop-count.number c.loop-count.invariant few)

pub overflow_add-number : goal.overflow_add-number
overflow_add-number c =
    let few : c.loop-count.count < 19 = omega (arith, c.loop-count-test.true, c.min-end.ensures) in
    omega (
      arith,
      small_value c.args.words.now c.loop-count.count c.loop-count.number c.loop-count.invariant few,
      c.from.ensures,
      c.type_inv.words c.loop-count.count,
    )
