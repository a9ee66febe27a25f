use Rattle.lt_law_invariant.proofs.FewAsks.{whole}
use Rattle.lt_serve.proofs.Checked.{counted}
use Rattle.lt_serve.proofs.checking.checked.Goals as goal

pub returns-in-Ok-clause-does : goal.returns-in-Ok-clause-does
returns-in-Ok-clause-does g c =
    let ended = c.in_ok-ended.ended in
    let told = c.in_ok-ended.ensures.told in
    counted (g.S.Source.state c.args.source.now).left ended.script ended.world c.into_run.result.entries c.in-Ok.made c.in_ok-ended.ensures.kept c.in_ok-ended.ensures.short
    told c.into_run.ensures.run
    (c.law_promised.ensures ended.script ended.world.run (whole ended.script c.in_ok-ended.ensures.kept) told.finished.is_run) c.in-Ok.ensures
