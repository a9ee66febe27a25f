use Rattle.std.proofs.Common.{◌∙◌, ◌∷◌, List, ℕ, codes, sym, ap, arith}
use Rattle.lt_text.specs.Text.{fields}
use Rattle.lt_journal.proofs.MoveLines.{act_first}
use Rattle.lt_journal.proofs.moves.after_act.Goals as goal

pub returns : goal.returns
returns c =
    act_first c.args.words.now (omega (arith, c.if-words-lt4.false)) c.if-words-ne97.false c.if-words-ne99.false c.if-words-ne116.false c.if-words-ne32.false
    ∙ ap (λ (rest : List ℕ). codes "act" ∷ fields rest) (sym c.split_at.ensures.back)
