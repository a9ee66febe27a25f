use Rattle.std.proofs.Common.{◌≡◌, ◌+◌, ◌++◌, ◌∷◌, [], sym, subst, get_or, rules}
use Rattle.lt_tally.specs.LockTable.{Table, cell_of, HasCell, Counts}
use Rattle.lt_tally.proofs.Clearing.{put_in}
use Rattle.lt_tally.proofs.Cells.{more_in_cell}
use Rattle.lt_tally.proofs.table.Table.add.Goals as goal

pub returns-in-Some-clause-added : goal.returns-in-Some-clause-added
returns-in-Some-clause-added c = λ held counts.
    let table = c.args.self.now in
    let lock = c.args.lock in
    let cell = cell_of table.sets lock in
    let has : HasCell c.args.script.now lock = search rules in
    let more : c.in-Some.more ≡ get_or table.cells cell 0 + 1 = search rules in
    let is : c.put.new.self ≡ put_in table cell (get_or table.cells cell 0 + 1) = cc in
    subst (λ (now : Table). Counts c.args.script.now now (held ++ lock ∷ [])) (sym is)
    (more_in_cell c.args.script.now table held lock has counts)
