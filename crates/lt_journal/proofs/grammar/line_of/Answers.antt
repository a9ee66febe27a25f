use Rattle.std.proofs.Common.{◌∙◌, List, ℕ, sym, ap}
use Rattle.lt_text.specs.Text.{fields}
use Rattle.lt_journal.specs.Grammar.{line_of}
use Rattle.lt_journal.proofs.MoveLines.{says_move}
use Rattle.lt_journal.proofs.grammar.line_of.Goals as goal

pub returns-in-Some : goal.returns-in-Some
returns-in-Some c =
    let script = c.args.script.now in
    c.move_line.ensures ∙ sym (ap (λ (ws : List (List ℕ)). line_of script ws) c.in-Some.ensures ∙ says_move script (fields c.in-Some.words.now))
