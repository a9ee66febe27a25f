use Rattle.std.proofs.Common.{arith}
use Rattle.lt_turns.proofs.TreeLemmas.{none_can}
use Rattle.lt_turns.proofs.turns.Turns.new.Goals as goal

pub invariant_of-result : goal.invariant_of-result
invariant_of-result c =
    let l = c.loop in
    none_can l.numbers.items l.ranks.items (omega (arith, l.invariant.nodes, l.invariant.players)) (omega (arith, l.invariant.players, l.auto.counter-end, c.ranges.players.fits)) l.invariant.none l.invariant.nobody
