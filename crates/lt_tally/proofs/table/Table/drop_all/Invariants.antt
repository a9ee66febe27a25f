use Rattle.lt_tally.proofs.Clearing.{Cleared}
use Rattle.lt_tally.proofs.table.Table.drop_all.Given as goal

abbrev pub invariant-loop-cell : goal.invariant-loop-cell
invariant-loop-cell l = Cleared l.script l.client l.set l.cell l.fn.self l.self
