use Rattle.std.proofs.Common.{◌∙◌, ◌++◌, ap, ℕ, Option}
use Rattle.lt_modes.specs.declared.mode.Mode.{Mode}
use Rattle.lt_nest_lines.specs.Written.{wish_line, waiting_text_of}
use Rattle.lt_nest_lines.proofs.Pieces.{piece_more, each_below-more}
use Rattle.lt_nest_lines.proofs.closing.push_waiting.Goals as goal

pub loop-transaction-preserved : goal.loop-transaction-preserved
loop-transaction-preserved c =
    piece_more _ _ _ _ _ _
    (c.in_ok-push_waiting_line.ensures
    ∙ ap (λ (wish : Option (ℕ × Mode)). c.loop-transaction.out.items ++ wish_line c.args.input.now c.loop-transaction.transaction wish) c.waiting.ensures)
    c.loop-transaction.invariant
    (each_below-more c.loop-transaction.transaction (waiting_text_of c.args.input.now c.args.play.now))
