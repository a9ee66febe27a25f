use Rattle.std.proofs.Common.{◌≡◌, Some, map, ap, rules}
use Rattle.lt_table.specs.Seen.{entry_seen}
use Rattle.lt_table.proofs.RecountLemmas.{all_were_told}
use Rattle.lt_table.proofs.table.Table.all_told.Goals as goal

pub returns-in-Some : goal.returns-in-Some
returns-in-Some c =
    let there : c.self.inside.told ≡ Some c.in-Some.told = search rules in
    all_were_told (map entry_seen c.self.inside.entries.items) c.args.self.now.entries c.self.inside.told c.in-Some.told c.args.modes c.same.result
    c.self.invariant.1.1.1.0 there (ap (λ t. t.entries) c.self.view_is) c.same.ensures
