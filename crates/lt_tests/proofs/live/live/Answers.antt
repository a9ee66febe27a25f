-- What was opened is of one script.
use Rattle.lt_live.proofs.Settling.{opened_are_live}
use Rattle.lt_tests.proofs.live.live.Goals as goal

pub returns : goal.returns
returns g c = (
  c.args.script.now,
  opened_are_live c.args.script.now _ _ _ c.expect.result.0.items c.expect.result.1.items c.requires
      (rw c.expect.ensures at c.open.ensures),
)
