use Rattle.std.proofs.Common.{◌∙◌, ap, nat_lt, subst, sym}
use Rattle.lt_spec.specs.Holdings.{holdings, lines_of, times_held}
use Rattle.lt_tally.specs.LockTable.{HasCell}
use Rattle.lt_waits.specs.Tallied.{TalliedData}
use Rattle.lt_waits.proofs.tallied.Tallied.is_held.Goals as goal

pub returns : goal.returns
returns c =
    let has = subst (λ (t : TalliedData). HasCell t.script c.args.lock) (sym c.self.view_is) (c.requires.client, c.requires.set) in
    ap (nat_lt 0)
    (c.count.ensures c.self.inside.script.now (lines_of c.self.inside.run.now.entries) c.self.invariant has
    ∙ ap (λ (t : TalliedData). times_held (holdings t.script t.lines) c.args.lock) c.self.view_is)
