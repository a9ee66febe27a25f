use Rattle.std.proofs.Common.{◌≡◌, drop}
use Rattle.lt_modes.specs.Waiting.{is_before}
use Rattle.lt_core.proofs.waiting.is_before.Given as goal

abbrev pub invariant-loop-k : goal.invariant-loop-k
invariant-loop-k l = is_before l.first l.second (drop l.k l.desk.desk.queue) ≡ is_before l.first l.second l.desk.desk.queue
