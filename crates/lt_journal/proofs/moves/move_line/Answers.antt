use Rattle.std.proofs.Common.{◌∙◌, sym}
use Rattle.lt_text.specs.Text.{before_space, later_fields}
use Rattle.lt_journal.proofs.MoveLines.{numbers_first}
use Rattle.lt_journal.proofs.moves.move_line.Goals as goal

pub returns : goal.returns
returns c =
    let words = c.args.words.now in
    c.step_line.ensures
    ∙ sym (numbers_first c.args.script.now (before_space words) (later_fields words) (c.in_ok-clock.clock, c.in_ok-clock.rest) (c.in_ok-node.node, c.in_ok-node.rest)
    c.in_ok-clock.ensures c.in_ok-node.ensures)
