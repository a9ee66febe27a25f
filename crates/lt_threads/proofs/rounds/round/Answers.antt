-- The crew grew, and then a move was made or the rounds are over.
use Rattle.std.proofs.Common.{subst, arith}
use Rattle.lt_runner.specs.declared.turning.Worked.{Worked}
use Rattle.lt_threads.specs.Settled.{CrewWorked}
use Rattle.lt_threads.proofs.rounds.round.Goals as goal
use Rattle.lt_threads.proofs.Pushing.{crew_grew, after_grew, crew_over}

pub crew-requires-clause-runners : goal.crew-requires-clause-runners
crew-requires-clause-runners g c = λ κs outlives. (
  omega (arith, c.requires.crew.count, c.requires.crew.is_script.some_node),
  omega (arith, c.requires.crew.count, c.requires.crew.is_script.few_nodes),
)

pub push_on-ended-requires-clause-crew : goal.push_on-ended-requires-clause-crew
push_on-ended-requires-clause-crew g c = λ κs outlives.
    crew_grew c.args.script.now c.args.runners.items c.in_ok-runners.runners.items c.in_ok-runners.ensures.grew c.requires.crew

pub returns : goal.returns
returns g c =
    after_grew c.push_on-ended.result c.args.script.now c.args.runners.items c.in_ok-runners.runners.items c.push_on-ended.new.runners.items
    c.in_ok-runners.ensures.grew c.push_on-ended.ensures

pub returns-in-NoMemory : goal.returns-in-NoMemory
returns-in-NoMemory g c =
    crew_over c.args.script.now c.args.runners.items c.in_ok-runners.runners.items c.requires.crew c.in_ok-runners.ensures.grew
    (subst (λ (worked : Worked). CrewWorked worked c.args.patience c.in_ok-runners.runners.items) c.in-NoMemory.is c.in_ok-runners.ensures.ends)
