use Rattle.std.proofs.Common.{length, ◌-◌}
use Rattle.lt_live.specs.Seats.{HasReadOn}
use Rattle.lt_live.proofs.ends.Seat.read_on.Given as goal

abbrev pub invariant-loop-self : goal.invariant-loop-self
invariant-loop-self l = HasReadOn l.log.entries l.initial.self l.self

abbrev pub decreases-loop-self : goal.decreases-loop-self
decreases-loop-self l = length l.log.entries - l.self.moves
