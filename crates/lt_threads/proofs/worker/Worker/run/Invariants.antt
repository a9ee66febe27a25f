-- The loop of visits.
use Rattle.std.proofs.Common.{◌≤◌, ◌+◌, ◌-◌, ◌*◌, length}
use Rattle.lt_threads.specs.Workers.{IsFree}
use Rattle.lt_threads.specs.Visits.{most_idle, most_moved}
use Rattle.lt_threads.proofs.Visited.{AreWithin}
use Rattle.lt_threads.proofs.worker.Worker.run.Given as goal

abbrev pub invariant-visits : goal.invariant-visits
invariant-visits g l = record {
  free : IsFree l.pool l.self.badge;
  within : AreWithin l.count l.patience l.self.outlook.visits;
  refused : length l.self.badge.refused ≤ length l.initial.self.badge.refused + (l.self.outlook.visits.moved * l.patience + l.self.outlook.visits.refused);
}

abbrev pub decreases-visits : goal.decreases-visits
decreases-visits g l =
    (most_moved l.count - l.self.outlook.visits.moved) * (most_idle l.count l.patience + 1)
    + (most_idle l.count l.patience - (l.self.outlook.visits.refused + l.self.outlook.visits.vain))
