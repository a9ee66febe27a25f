use Rattle.lt_core.proofs.BoundLemmas.{ends_fit, commands_fit, takes_fit}
use Rattle.lt_core.proofs.laws.law_room_to_send.Goals as goal

pub returns : goal.returns
returns c = record { ends = ends_fit; commands = commands_fit; takes = takes_fit }
