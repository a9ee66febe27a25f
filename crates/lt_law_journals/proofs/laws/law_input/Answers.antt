use Rattle.std.proofs.Common.{ap, ap₂, ◌∙◌, drop, List, ℕ}
use Rattle.lt_journal.specs.Split.{input_parts}
use Rattle.lt_law_journals.specs.Checking.{checked, counted_from}
use Rattle.lt_law_journals.proofs.Feeds.{fed_all}
use Rattle.lt_law_journals.proofs.Inputs.{journal_part, script_part, lines_counted}
use Rattle.lt_law_journals.proofs.laws.law_input.Goals as goal

pub returns-clause-script : goal.returns-clause-script
returns-clause-script c = script_part

pub returns-clause-journal : goal.returns-clause-journal
returns-clause-journal c = journal_part

pub returns-clause-before : goal.returns-clause-before
returns-clause-before c = lines_counted

pub returns-clause-answer : goal.returns-clause-answer
returns-clause-answer c = λ script bytes is_script is_short.
    ap (counted_from (input_parts bytes).lines) (fed_all script (drop (input_parts bytes).journal bytes) is_script is_short)
    ∙ ap₂ (λ (n : ℕ) (ls : List (List ℕ)). counted_from n (checked script ls)) (lines_counted bytes) (journal_part bytes)
