use Rattle.lt_journal.specs.RunLines.{run_lines}
use Rattle.lt_journal.proofs.Fitting.{lines_fit}
use Rattle.lt_law_journals.proofs.Short.{fits_in_runs}
use Rattle.lt_journal.proofs.Written.{named, few_nodes, read_back}
use Rattle.lt_law_journals.proofs.laws.law_read_text.Goals as goal

pub returns : goal.returns
returns c = λ script entries cut is_script is_run few cut_node.
    read_back script (run_lines script entries cut) (named script is_script) (few_nodes script is_script)
    (lines_fit script entries cut (fits_in_runs script entries cut is_script is_run few cut_node))
