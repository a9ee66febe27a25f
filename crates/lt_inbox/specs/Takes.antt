-- A take as the code names it.
use Rattle.lt_spec.specs.FixedOrder.{Turn, take_turn}
use Rattle.lt_inbox.specs.declared.takes.Take.{Take}

abbrev pub turn_of_take : Take → Turn
turn_of_take take = take_turn take.receiver take.sender
