-- As many zeros as nodes so far.
use Rattle.std.specs.Prelude.{[]}
use Rattle.lt_apart.specs.Remote.{AreCounts}
use Rattle.lt_apart.proofs.ends.no_letters.Given as goal

abbrev pub invariant-loop : goal.invariant-loop
invariant-loop l = AreCounts l.counter l.numbers.items (λ _. [])
