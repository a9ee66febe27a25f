use Rattle.std.proofs.Common.{rules, ◌≡◌, ◌≢◌, ◌-◌, ◌≤◌, ◌<◌, List, slice_index_or, ap, arith, length}
use Rattle.std.proofs.lemmas.List.{get_or_default}
use Rattle.lt_modes.specs.declared.parts.Row.{Row}
use Rattle.lt_held.specs.HeldData.{IsCounted, most_locks}
use Rattle.lt_held.proofs.RowLemmas.{rows_set, rows_removed, count_removed}
use Rattle.lt_held.proofs.held.Held.take.Goals as goal

pub invariant_of-self : goal.invariant_of-self
invariant_of-self c =
    rw c.remove.ensures.items (rows_removed c.self.inside.rows.items c.in-Some.k c.self.invariant (search rules))

pub invariant_of-self-else-index-eq1 : goal.invariant_of-self-else-index-eq1
invariant_of-self-else-index-eq1 c =
    let rows : List Row = c.self.inside.rows.items in
    let row : Row = c.index_mut.result.now in
    let read : Row = c.index.result.now in
    let within : c.in-Some.k < length rows = search rules in
    let same : row ≡ slice_index_or rows c.in-Some.k row = search rules in
    let same_read : read ≡ slice_index_or rows c.in-Some.k read = search rules in
    let counted : IsCounted (slice_index_or rows c.in-Some.k row) = c.self.invariant.counted c.in-Some.k row within in
    let count : row.count ≡ read.count = omega (arith, ap (λ (r : Row). r.count) same, ap (λ (r : Row). r.count) same_read, ap (λ (r : Row). r.count) (get_or_default rows c.in-Some.k row read within)) in
    let several : row.count ≢ 1 = λ e. c.if-index-eq1.false (omega (arith, e, count)) in
    let some : 1 ≤ row.count - 1 = omega (arith, several, counted.some, ap (λ (r : Row). r.count) same) in
    let bound : row.count - 1 ≤ most_locks = omega (arith, counted.within, ap (λ (r : Row). r.count) same) in
    rows_set rows c.in-Some.k row (record row { count = row.count - 1 }) c.self.invariant within (record { some = some; within = bound }) (ap (λ (r : Row). r.client) same) (ap (λ (r : Row). r.mode) same)

pub returns-then-index-eq1-clause-fewer : goal.returns-then-index-eq1-clause-fewer
returns-then-index-eq1-clause-fewer c =
    rw (← c.self.view_is, c.remove.ensures.items) (λ other. count_removed c.self.inside.rows.items c.in-Some.k c.args.client other c.self.invariant (search rules))
