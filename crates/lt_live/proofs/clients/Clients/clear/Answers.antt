use Rattle.lt_live.proofs.Marking.{no_bits}
use Rattle.lt_live.proofs.clients.Clients.clear.Goals as goal

pub returns : goal.returns
returns c = no_bits
