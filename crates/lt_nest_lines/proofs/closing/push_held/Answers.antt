use Rattle.lt_nest_lines.specs.Written.{held_text_of}
use Rattle.lt_nest_lines.proofs.Pieces.{piece_more, each_below-more}
use Rattle.lt_nest_lines.proofs.closing.push_held.Goals as goal

pub loop-transaction-preserved : goal.loop-transaction-preserved
loop-transaction-preserved c =
    piece_more _ _ _ _ _ _ c.in_ok-push_held_by.ensures c.loop-transaction.invariant
    (each_below-more c.loop-transaction.transaction (held_text_of c.args.input.now c.args.play.now))
