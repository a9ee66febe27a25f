use Rattle.std.proofs.Common.{List, subst, sym}
use Rattle.lt_runner.specs.declared.parts.Parts.{Parts}
use Rattle.lt_runner.specs.Kept.{SameRunner, AsSeen}
use Rattle.lt_threads.specs.Meeting.{IsCrew, AreMet, AnyTwo}
use Rattle.lt_threads.proofs.Each.{each_weaker}
use Rattle.lt_threads.proofs.Logs.{crew_last}
use Rattle.lt_threads.proofs.waiting.anyone_waits.Goals as goal

pub returns-clause-crew : goal.returns-clause-crew
returns-clause-crew c =
    crew_last c.args.script.now c.args.runners.now.items c.meet_all.new.runners.items
    (each_weaker AsSeen SameRunner (λ a b seen. seen.same) c.args.runners.now.items c.meet_all.new.runners.items c.meet_all.ensures.seen) c.requires

pub some_client_waits-requires-clause-crew : goal.some_client_waits-requires-clause-crew
some_client_waits-requires-clause-crew c =
    subst (λ (rs : List Parts). IsCrew c.args.script.now rs) (sym c.deref-2.ensures.value)
    (crew_last c.args.script.now c.args.runners.now.items c.meet_all.new.runners.items
    (each_weaker AsSeen SameRunner (λ a b seen. seen.same) c.args.runners.now.items c.meet_all.new.runners.items c.meet_all.ensures.seen) c.requires)

pub some_client_waits-requires-clause-met : goal.some_client_waits-requires-clause-met
some_client_waits-requires-clause-met c = subst (λ (rs : List Parts). AreMet AnyTwo rs) (sym c.deref-2.ensures.value) c.meet_all.ensures.met
