use Rattle.lt_model.proofs.laws.law_homes.Goals as goal
use Rattle.lt_model.proofs.HomesMove.{homes_kept, homes_in_runs}
use Rattle.lt_model.proofs.HomesSound.{homes_sound, stamps_apart}

pub returns : goal.returns
returns c = record { step = homes_kept; run = homes_in_runs; sound = homes_sound; stamps = stamps_apart }
