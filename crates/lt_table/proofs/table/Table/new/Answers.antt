use Rattle.std.proofs.Common.{arith, map}
use Rattle.lt_table.specs.Seen.{entry_seen}
use Rattle.lt_table.proofs.CountLemmas.{first_counts}
use Rattle.lt_table.proofs.KnownLemmas.{none_at_first}
use Rattle.lt_table.proofs.table.Table.new.Goals as goal

pub invariant_of-result : goal.invariant_of-result
invariant_of-result c =
    let made = c.in_ok-first_entries.ensures in (
      omega (arith, made.length, c.ranges.nodes.fits),
      (
        first_counts (map entry_seen c.in_ok-first_entries.field-0.items) c.new.result c.args.nodes made.entries c.new.ensures,
        (omega arith, (tt, none_at_first (map entry_seen c.in_ok-first_entries.field-0.items) c.args.nodes made.entries)),
      ),
    )
