use Rattle.std.proofs.Common.{length, ◌-◌}
use Rattle.lt_live.specs.Seats.{ReadsMove}
use Rattle.lt_live.proofs.ends.Seat.read_move.Given as goal

abbrev pub invariant-loop-self : goal.invariant-loop-self
invariant-loop-self l = ReadsMove l.lines l.initial.self l.self

abbrev pub decreases-loop-self : goal.decreases-loop-self
decreases-loop-self l = length l.lines - l.self.lines
