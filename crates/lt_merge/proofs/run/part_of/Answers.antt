use Rattle.std.proofs.Common.{arith}
use Rattle.lt_merge.proofs.Laid.{events_bounds-inner, events_bounds-last, events_bounds-within}
use Rattle.lt_merge.proofs.run.part_of.Goals as goal

pub returns-then-k-moves-clause-part : goal.returns-then-k-moves-clause-part
returns-then-k-moves-clause-part c = events_bounds-inner c.args.moves.now c.args.count c.args.k _ (omega arith)

pub returns-then-k-moves-clause-ordered : goal.returns-then-k-moves-clause-ordered
returns-then-k-moves-clause-ordered c =
    (events_bounds-within c.args.moves.now c.args.count c.args.k _ _ c.requires.laid (returns-then-k-moves-clause-part c)).0

pub returns-then-k-moves-clause-within : goal.returns-then-k-moves-clause-within
returns-then-k-moves-clause-within c =
    (events_bounds-within c.args.moves.now c.args.count c.args.k _ _ c.requires.laid (returns-then-k-moves-clause-part c)).1

pub returns-else-k-moves-clause-part : goal.returns-else-k-moves-clause-part
returns-else-k-moves-clause-part c = events_bounds-last c.args.moves.now c.args.count c.args.k _ c.requires.inside (omega arith)

pub returns-else-k-moves-clause-ordered : goal.returns-else-k-moves-clause-ordered
returns-else-k-moves-clause-ordered c =
    (events_bounds-within c.args.moves.now c.args.count c.args.k _ _ c.requires.laid (returns-else-k-moves-clause-part c)).0
