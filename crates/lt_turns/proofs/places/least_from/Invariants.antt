use Rattle.lt_turns.specs.Turns.{IsLeastFrom}
use Rattle.lt_turns.proofs.places.least_from.Given as goal

abbrev pub invariant-loop-player : goal.invariant-loop-player
invariant-loop-player l = IsLeastFrom l.numbers l.from l.player l.first
