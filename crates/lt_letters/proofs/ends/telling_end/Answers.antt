use Rattle.std.proofs.Common.{refl}
use Rattle.lt_modes.specs.State.{TellBody}
use Rattle.lt_letters.specs.Reading.{telling_from, tell_from}
use Rattle.lt_letters.proofs.ends.telling_end.Goals as goal

pub returns : goal.returns
unfolding telling_from tell_from
returns c = (TellBody (record { node = c.in_ok-_node._node; modes = c.in_ok-rest.ensures.0; pending = c.in_ok-rest-2.ensures.0; stamp = c.in_ok-_stamp._stamp }), rw (c.in_ok-_node.ensures, c.in_ok-rest.ensures.1, c.in_ok-rest-2.ensures.1, c.in_ok-_stamp.ensures) refl)
