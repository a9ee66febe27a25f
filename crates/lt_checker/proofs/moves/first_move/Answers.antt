use Rattle.std.proofs.Common.{arith}
use Rattle.lt_checker.proofs.FirstLines.{move_parts}
use Rattle.lt_checker.proofs.moves.first_move.Goals as goal

pub returns-clause-parts : goal.returns-clause-parts
returns-clause-parts c =
    move_parts c.args.script.now c.args.bytes.now c.split_at.result.1.now c.in_ok-clock.words.now c.in_ok-node.words.now c.in_ok-step.later.now c.in_ok-clock.clock
    c.in_ok-node.node c.in_ok-step.step (omega (arith, c.if-bytes-lt-LONG.false)) c.if-bytes-ne109.false c.if-bytes-ne111.false c.if-bytes-ne118.false
    c.if-bytes-ne101.false c.if-bytes-ne32.false c.split_at.ensures.back c.in_ok-clock.ensures c.in_ok-node.ensures.parts c.in_ok-step.ensures.parts
