-- A runner that worked continues the first one of its slot, and its moves are counted.
use Rattle.std.proofs.Common.{inr, ℕ, ap, ◌∙◌}
use Rattle.lt_pool.specs.PoolData.{BadgeData}
use Rattle.lt_runner.specs.declared.parts.Parts.{Parts}
use Rattle.lt_threads.specs.Visits.{after_moves}
use Rattle.lt_threads.proofs.SharedRunners.{works_on}
use Rattle.lt_threads.proofs.worker.Worker.visit.Goals as goal

pub give-requires-clause-item : goal.give-requires-clause-item
give-requires-clause-item g c =
    works_on c.args.pool.now.firsts c.args.node c.in-Ok.runner _ c.in-Ok.ensures.item c.work_on-visit.ensures.grew

pub returns-clause-visit : goal.returns-clause-visit
returns-clause-visit g c = inr (
  ap (λ (b : BadgeData Parts). b.refused) c.note.ensures.badge
      ∙ (ap (λ (b : BadgeData Parts). b.refused) c.give.ensures.badge ∙ ap (λ (b : BadgeData Parts). b.refused) c.in-Ok.ensures.ok),
  record {
    x = c.in-Ok.runner;
    y = c.work_on-visit.new.runner;
    claimed = c.in-Ok.ensures.item;
    grew = c.work_on-visit.ensures.grew;
    counted = c.note.ensures.visits ∙ ap (λ (moves : ℕ). after_moves moves c.args.self.now.outlook.visits) c.work_on-visit.ensures.moves;
  },
)
