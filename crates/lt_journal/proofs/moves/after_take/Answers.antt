use Rattle.std.proofs.Common.{◌∙◌, ◌∷◌, List, ℕ, codes, sym, ap, arith}
use Rattle.lt_text.specs.Text.{fields}
use Rattle.lt_journal.proofs.MoveLines.{take_first}
use Rattle.lt_journal.proofs.moves.after_take.Goals as goal

pub returns : goal.returns
returns c =
    take_first c.args.words.now (omega (arith, c.if-words-lt5.false)) c.if-words-ne116.false c.if-words-ne97.false c.if-words-ne107.false c.if-words-ne101.false c.if-words-ne32.false
    ∙ ap (λ (rest : List ℕ). codes "take" ∷ fields rest) (sym c.split_at.ensures.back)
