use Rattle.lt_nest_lines.specs.Written.{held_text_in_set}
use Rattle.lt_nest_lines.proofs.Pieces.{piece_more, each_below-more}
use Rattle.lt_nest_lines.proofs.closing.push_held_by.Goals as goal

pub loop-set-preserved : goal.loop-set-preserved
loop-set-preserved c =
    piece_more _ _ _ _ _ _ c.in_ok-push_held_in_set.ensures c.loop-set.invariant
    (each_below-more c.loop-set.set (held_text_in_set c.args.input.now c.args.play.now c.args.transaction))
