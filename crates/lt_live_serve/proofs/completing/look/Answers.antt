-- The caller submitted and polled nothing.
use Rattle.std.proofs.Common.{arith, refl}
use Rattle.lt_live_serve.proofs.completing.look.Goals as goal

pub returns-clause-calls : goal.returns-clause-calls
returns-clause-calls c = record { session = c.beside.ensures.looks.looks.session; commands = refl; left = omega arith }
