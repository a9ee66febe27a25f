use Rattle.lt_tally.proofs.Cells.{few_cells}
use Rattle.std.proofs.Common.{arith}
use Rattle.lt_tally.proofs.table.first_cell.Goals as goal

pub returns-clause-within : goal.returns-clause-within
returns-clause-within c =
    rw (c.from.ensures, c.cells_of_client.ensures) (few_cells c.args.client c.args.sets (omega arith) (omega arith))

pub overflow_mul-result : goal.overflow_mul-result
overflow_mul-result c = omega (arith, returns-clause-within c)
