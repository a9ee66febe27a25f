use Rattle.std.proofs.lemmas.Result.{IfOk-weaker}
use Rattle.lt_serve.proofs.Answering.{ran_to}
use Rattle.lt_serve.proofs.threaded.run_nodes.Goals as goal

pub returns-clause-ran : goal.returns-clause-ran
returns-clause-ran g c =
    IfOk-weaker c.run_on_threads.result _ _
    (λ made told. ran_to c.args.setup.moves made.0 c.args.script.now made.1.entries c.law_promised.ensures c.law_ordered.ensures.finish
    c.requires.kept c.requires.short told.is_run told.within told.ends)
    c.run_on_threads.ensures
