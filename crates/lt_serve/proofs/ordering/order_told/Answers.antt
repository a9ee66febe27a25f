use Rattle.std.proofs.Common.{refl}
use Rattle.lt_serve.proofs.ordering.order_told.Goals as goal

pub returns-in-Ok-clause-does : goal.returns-in-Ok-clause-does
returns-in-Ok-clause-does g c = record {
  done = refl;
  no_run = c.new.ensures;
  script = c.in_ok-script.script;
  denoted = c.in_ok-script.ensures.script;
  told = c.in-Ok.ensures;
}
