use Rattle.std.proofs.Common.{◌≡◌, ◌∙◌, ◌+◌, ◌*◌, ◌<◌, true, length, get_or, sym, subst, arith}
use Rattle.std.specs.Char.{is_ascii_digit}
use Rattle.lt_journal.specs.Grammar.{AreFirstDigits}
use Rattle.lt_checker.proofs.FirstLines.{no_digits, digit_more, small_value}
use Rattle.lt_checker.proofs.moves.clock_digits.Goals as goal

pub loop-count-init : goal.loop-count-init
loop-count-init c = no_digits c.args.bytes.now

pub loop-count-preserved : goal.loop-count-preserved
loop-count-preserved c =
    let bytes = c.args.bytes.now in
    let k = c.loop-count.count in
    let few : k < 19 = omega (arith, c.loop-count-test.true) in
    let inside : k < length bytes = omega (arith, few, c.requires) in
    let digit : is_ascii_digit (get_or bytes k 0) ≡ true = sym c.is_ascii_digit.ensures.value ∙ c.if-is_ascii_digit.true in
    subst (λ n. AreFirstDigits bytes (k + 1) (c.loop-count.number * 10 + n)) (sym c.from.ensures) (digit_more bytes k c.loop-count.number c.loop-count.invariant inside few digit)

pub overflow_mul-number : goal.overflow_mul-number
overflow_mul-number c =
    let few : c.loop-count.count < 19 = omega (arith, c.loop-count-test.true) in
    omega (arith, small_value c.args.bytes.now c.loop-count.count c.loop-count.number c.loop-count.invariant few)

pub overflow_add-number : goal.overflow_add-number
overflow_add-number c =
    let few : c.loop-count.count < 19 = omega (arith, c.loop-count-test.true) in
    omega (
      arith,
      small_value c.args.bytes.now c.loop-count.count c.loop-count.number c.loop-count.invariant few,
      c.from.ensures,
      c.type_inv.bytes c.loop-count.count,
    )
