-- One caller was asked.
use Rattle.lt_live_callers.specs.Desks.{IsAsked}
use Rattle.lt_live_callers.proofs.Places.{one_set}
use Rattle.lt_live_callers.proofs.desk.ask_at.Goals as goal

pub returns-clause-asked : goal.returns-clause-asked
returns-clause-asked g c =
    one_set (IsAsked g.C.Caller.says) c.args.place c.args.desks.now.items c.index_mut.result.now c.index_mut.result.now c.ask.new.self c.requires
    c.index_mut.ensures.value c.ask.ensures.asked
