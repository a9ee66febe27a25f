-- The run is that of the stations; where they have too many commands together for a text, they had before.
use Rattle.std.proofs.Common.{Err, ap, refl, subst, sym}
use Rattle.lt_threads.specs.Meeting.{HaveAll, AreTooMany}
use Rattle.lt_live.proofs.Finished.{never_many, same_taken}
use Rattle.lt_live.proofs.WholeRuns.{finishes}
use Rattle.lt_live.proofs.finishing.finish.Goals as goal

pub returns-in-Ok-clause-run : goal.returns-in-Ok-clause-run
returns-in-Ok-clause-run c =
    finishes c.args.stations.items c.settle_all.new.stations.items c.args.sessions.items c.settle_all.new.sessions.items c.take_runners.result.items
    c.in-Ok.made.0 c.in-Ok.made.1.entries c.requires c.settle_all.ensures.settled c.settle_all.ensures.own c.take_runners.ensures c.in-Ok.ensures.run

pub returns-in-Ok-clause-few_commands : goal.returns-in-Ok-clause-few_commands
returns-in-Ok-clause-few_commands c = c.in-Ok.ensures.run.joined.few_commands

pub returns-in-Ok-clause-told : goal.returns-in-Ok-clause-told
returns-in-Ok-clause-told c = λ all many.
    let same =
    same_taken c.args.stations.items c.settle_all.new.stations.items c.args.sessions.items c.settle_all.new.sessions.items c.take_runners.result.items
    c.requires c.settle_all.ensures.settled c.take_runners.ensures in
    let told = c.in-Ok.ensures.told (subst HaveAll (sym same) all) (subst AreTooMany (sym same) many) in
    absurd (cc)

pub returns-in-Err-Forgotten-clause-told : goal.returns-in-Err-Forgotten-clause-told
returns-in-Err-Forgotten-clause-told c = λ all many.
    let same =
    same_taken c.args.stations.items c.settle_all.new.stations.items c.args.sessions.items c.settle_all.new.sessions.items c.take_runners.result.items
    c.requires c.settle_all.ensures.settled c.take_runners.ensures in
    absurd (c.in-Err-Forgotten.ensures.forgotten.0 (ap Err c.in-Err-Forgotten.field-0-is) (subst HaveAll (sym same) all))

pub returns-in-Err-TooMany-clause-many : goal.returns-in-Err-TooMany-clause-many
returns-in-Err-TooMany-clause-many c = λ e.
    let same =
    same_taken c.args.stations.items c.settle_all.new.stations.items c.args.sessions.items c.settle_all.new.sessions.items c.take_runners.result.items
    c.requires c.settle_all.ensures.settled c.take_runners.ensures in
    subst AreTooMany same (c.in-Err-TooMany.ensures.many c.in-Err-TooMany.field-0-is)

pub returns-in-Err-TooMany-clause-few : goal.returns-in-Err-TooMany-clause-few
returns-in-Err-TooMany-clause-few c = λ equal e.
    never_many c.args.stations.items c.settle_all.new.stations.items c.args.sessions.items c.settle_all.new.sessions.items c.take_runners.result.items
    c.requires c.settle_all.ensures.settled c.take_runners.ensures equal (c.in-Err-TooMany.ensures.many c.in-Err-TooMany.field-0-is)

pub returns-in-Err-Forgotten-clause-forgotten : goal.returns-in-Err-Forgotten-clause-forgotten
returns-in-Err-Forgotten-clause-forgotten c = (
  λ e all.
      let same =
      same_taken c.args.stations.items c.settle_all.new.stations.items c.args.sessions.items c.settle_all.new.sessions.items c.take_runners.result.items
      c.requires c.settle_all.ensures.settled c.take_runners.ensures in
      c.in-Err-Forgotten.ensures.forgotten.0 (ap Err c.in-Err-Forgotten.field-0-is) (subst HaveAll (sym same) all),
  λ none. refl,
)
