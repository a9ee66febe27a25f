use Rattle.std.proofs.Common.{◌≡◌, ◌-◌, sym, subst, get_or, rules}
use Rattle.lt_spec.specs.Holdings.{without_one}
use Rattle.lt_tally.specs.LockTable.{Table, cell_of, HasCell, Counts}
use Rattle.lt_tally.proofs.Clearing.{put_in}
use Rattle.lt_tally.proofs.Cells.{less_in_cell, less_elsewhere}
use Rattle.lt_tally.proofs.table.Table.take.Goals as goal

pub returns-then-has_cell : goal.returns-then-has_cell
returns-then-has_cell c = λ held counts.
    let table = c.args.self.now in
    let lock = c.args.lock in
    let cell = cell_of table.sets lock in
    let has : HasCell c.args.script.now lock = search rules in
    let is : c.put.new.self ≡ put_in table cell (get_or table.cells cell 0 - 1) = cc in
    subst (λ (now : Table). Counts c.args.script.now now (without_one held lock)) (sym is)
    (less_in_cell c.args.script.now table held lock has counts)

pub returns-else-has_cell : goal.returns-else-has_cell
returns-else-has_cell c = λ held counts.
    let none : HasCell c.args.script.now c.args.lock → ⊥ = search rules in
    less_elsewhere c.args.script.now c.args.self.now held c.args.lock none counts
