use Rattle.std.proofs.Common.{◌∙◌, ◌∷◌, List, ℕ, codes, sym, ap, arith}
use Rattle.lt_text.specs.Text.{fields}
use Rattle.lt_journal.proofs.MoveLines.{move_first}
use Rattle.lt_journal.proofs.moves.after_move.Goals as goal

pub returns : goal.returns
returns c =
    move_first c.args.line.now (omega (arith, c.if-line-lt5.false)) c.if-line-ne109.false c.if-line-ne111.false c.if-line-ne118.false c.if-line-ne101.false c.if-line-ne32.false
    ∙ ap (λ (rest : List ℕ). codes "move" ∷ fields rest) (sym c.split_at.ensures.back)
