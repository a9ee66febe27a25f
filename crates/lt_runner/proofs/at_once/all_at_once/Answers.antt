-- What was said of all holds of each.
use Rattle.lt_runner.proofs.AtOnceLemmas.{all_grew, all_at_rest}
use Rattle.lt_runner.proofs.at_once.all_at_once.Goals as goal

pub returns-clause-grew : goal.returns-clause-grew
returns-clause-grew g c =
    all_grew c.work_all.result c.args.patience c.args.runners.now c.work_all.new.runners c.work_all.ensures

pub returns-clause-at_once : goal.returns-clause-at_once
returns-clause-at_once g c =
    all_at_rest c.work_all.result c.args.patience c.args.runners.now c.work_all.new.runners c.work_all.ensures
