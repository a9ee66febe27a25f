-- A move as the code names it.
use Rattle.lt_spec.specs.FixedOrder.{Turn}
use Rattle.lt_world.specs.declared.choice.Choice.{Choice}

abbrev pub choice_of : Turn → Choice
choice_of turn = record { node = turn.node; step = turn.step }
