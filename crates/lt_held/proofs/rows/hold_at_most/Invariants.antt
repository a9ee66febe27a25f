use Rattle.std.proofs.Common.{◌≡◌, drop, nat_le}
use Rattle.lt_modes.specs.Modes.{locks_in}
use Rattle.lt_held.proofs.rows.hold_at_most.Given as goal

abbrev pub invariant-loop-row : goal.invariant-loop-row
invariant-loop-row l = nat_le (locks_in (drop l.row-index l.rows)) l.left ≡ nat_le (locks_in l.rows) l.locks
