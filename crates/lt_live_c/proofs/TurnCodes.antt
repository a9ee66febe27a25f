-- No code of a turn is that of a wrong handle.
use Rattle.std.proofs.Common.{◌≡◌, arith}
use Rattle.lt_runner.specs.declared.turning.Turned.{Turned}
use Rattle.lt_runner.specs.declared.turning.Turned.TheVariants as turns
use Rattle.lt_live_c.specs.declared.code.TheConstants.{WRONG_HANDLE}
use Rattle.lt_live_c.specs.Calls.{number_of_turn}

pub turn_is_right : (turned : Turned) → number_of_turn turned ≡ WRONG_HANDLE → ⊥
turn_is_right turns.Moved e = omega (arith, e)
turn_is_right turns.Quiet e = omega (arith, e)
turn_is_right turns.Full e = omega (arith, e)
turn_is_right turns.NoMemory e = omega (arith, e)
