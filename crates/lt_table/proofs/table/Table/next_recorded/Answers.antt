use Rattle.std.proofs.Common.{map, ap}
use Rattle.lt_table.specs.Seen.{entry_seen}
use Rattle.lt_table.proofs.KnownLemmas.{some_known}
use Rattle.lt_table.proofs.table.Table.next_recorded.Goals as goal

pub returns-clause-some : goal.returns-clause-some
returns-clause-some c =
    some_known (map entry_seen c.self.inside.entries.items) c.args.self.now.entries c.self.inside.recorded c.args.from c.next_bit.result
    (ap (λ t. t.entries) c.self.view_is) c.self.invariant.1.1.1.1 c.next_bit.ensures.some
