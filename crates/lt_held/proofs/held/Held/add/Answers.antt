use Rattle.std.proofs.Common.{rules, ◌≡◌, ◌+◌, ◌<◌, List, Some, slice_index_or, ap, arith, length}
use Rattle.std.proofs.lemmas.List.{get_or_default}
use Rattle.lt_modes.specs.declared.parts.Row.{Row}
use Rattle.lt_modes.specs.Modes.{row_place, count_at, no_row}
use Rattle.lt_held.specs.HeldData.{most_locks}
use Rattle.lt_held.proofs.RowLemmas.{rows_set}
use Rattle.lt_held.proofs.held.Held.add.Goals as goal

pub invariant_of-self : goal.invariant_of-self
invariant_of-self c =
    let rows : List Row = c.self.inside.rows.items in
    let row : Row = c.index_mut.result.now in
    let placed : row_place rows c.args.client c.args.mode ≡ Some c.in-Some.k = search rules in
    let within : c.in-Some.k < length rows = search rules in
    let same : row ≡ slice_index_or rows c.in-Some.k row = search rules in
    let few : count_at rows (row_place rows c.args.client c.args.mode) < most_locks = search rules in
    let count : (slice_index_or rows c.in-Some.k no_row).count < most_locks = omega (arith, few, ap (count_at rows) placed) in
    let bound : row.count < most_locks = omega (arith, count, ap (λ (r : Row). r.count) same, ap (λ (r : Row). r.count) (get_or_default rows c.in-Some.k row no_row within)) in
    rows_set rows c.in-Some.k row (record row { count = row.count + 1 }) c.self.invariant within (record { some = omega arith; within = omega (arith, bound) }) (ap (λ (r : Row). r.client) same) (ap (λ (r : Row). r.mode) same)
