use Rattle.std.proofs.Common.{◌≡◌, true, sym, arith}
use Rattle.lt_text.specs.Text.{words}
use Rattle.lt_script.specs.Steps.{is_plain_line}
use Rattle.lt_script.proofs.FaultOrder.{no_word_step, comment_step, bytes_step, length_step, line_words_step, later_line_step}
use Rattle.lt_script.proofs.reading.read_line.Goals.{else-not-is_plain-via-then-not-is_plain+else-not-is_plain_line, else-not-is_plain-via-else-not-is_plain}
use Rattle.lt_script.proofs.reading.read_line.Goals as goal

pub returns-in_default : goal.returns-in_default
returns-in_default c = no_word_step c.args.version c.args.script.now c.args.line.now c.in_default.ensures.words

pub returns-then-begins_comment : goal.returns-then-begins_comment
returns-then-begins_comment c =
    comment_step c.args.version c.args.script.now c.args.line.now c.in-Some.word.now (words c.in-Some.rest.now) c.in-Some.ensures.words (sym c.if-begins_comment.ensures)

pub returns-then-not-is_plain_line : goal.returns-then-not-is_plain_line
returns-then-not-is_plain_line c =
    bytes_step c.args.version c.args.script.now c.args.line.now c.in-Some.word.now (words c.in-Some.rest.now) c.in-Some.ensures.words (sym c.if-begins_comment.ensures) (sym c.if-not-is_plain_line.ensures)

pub returns-then-line-gt-MAX_LINE : goal.returns-then-line-gt-MAX_LINE
returns-then-line-gt-MAX_LINE c =
    let plain : is_plain_line c.args.line.now ≡ true = elim c.else-not-is_plain.branch [
      | else-not-is_plain-via-then-not-is_plain+else-not-is_plain_line looked ↦ sym looked.if-not-is_plain_line.ensures
      | else-not-is_plain-via-else-not-is_plain known ↦ c.requires.plain known.if-not-is_plain.false
    ] in
    length_step c.args.version c.args.script.now c.args.line.now c.in-Some.word.now (words c.in-Some.rest.now) c.in-Some.ensures.words (sym c.if-begins_comment.ensures) plain
    (omega (arith, c.if-line-gt-MAX_LINE.true))

pub returns-in-Some-script : goal.returns-in-Some-script
returns-in-Some-script c =
    let plain : is_plain_line c.args.line.now ≡ true = elim c.else-not-is_plain.branch [
      | else-not-is_plain-via-then-not-is_plain+else-not-is_plain_line looked ↦ sym looked.if-not-is_plain_line.ensures
      | else-not-is_plain-via-else-not-is_plain known ↦ c.requires.plain known.if-not-is_plain.false
    ] in
    rw
    (later_line_step c.args.version c.args.script.now c.in-Some-script.script c.args.line.now c.in-Some.word.now (words c.in-Some.rest.now) c.in-Some-script.is c.in-Some.ensures.words
    (sym c.if-begins_comment.ensures) plain (omega (arith, c.if-line-gt-MAX_LINE.false)))
    c.add_line.ensures

pub returns-in-None : goal.returns-in-None
returns-in-None c =
    let plain : is_plain_line c.args.line.now ≡ true = elim c.else-not-is_plain.branch [
      | else-not-is_plain-via-then-not-is_plain+else-not-is_plain_line looked ↦ sym looked.if-not-is_plain_line.ensures
      | else-not-is_plain-via-else-not-is_plain known ↦ c.requires.plain known.if-not-is_plain.false
    ] in
    rw
    (line_words_step c.args.version c.args.script.now c.args.line.now c.in-Some.word.now (words c.in-Some.rest.now) c.in-Some.ensures.words (sym c.if-begins_comment.ensures)
    plain (omega (arith, c.if-line-gt-MAX_LINE.false)))
    c.begin.ensures
