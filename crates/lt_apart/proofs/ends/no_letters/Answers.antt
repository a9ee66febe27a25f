-- One zero more.
use Rattle.std.proofs.Common.{[], ◌+◌, List, ℕ, subst, sym}
use Rattle.lt_apart.specs.Remote.{AreCounts}
use Rattle.lt_apart.proofs.FarEnds.{zero_more}
use Rattle.lt_apart.proofs.ends.no_letters.Goals as goal

pub loop-preserved : goal.loop-preserved
loop-preserved c =
    subst (λ (numbers : List ℕ). AreCounts (c.loop.counter + 1) numbers (λ _. [])) (sym c.in_ok-push.ensures.items)
    (zero_more c.loop.counter c.loop.numbers.items c.loop.invariant)
