use Rattle.std.proofs.Common.{◌≡◌, ◌+◌, drop}
use Rattle.lt_modes.specs.Modes.{locks_of}
use Rattle.lt_held.proofs.rows.locks.Given as goal

abbrev pub invariant-loop-row : goal.invariant-loop-row
invariant-loop-row l = l.locks + locks_of (drop l.row-index l.rows) l.client ≡ locks_of l.rows l.client
