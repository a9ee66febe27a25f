use Rattle.lt_law_merged.proofs.laws.law_hand_fits.Goals as goal
use Rattle.lt_law_merged.proofs.PartLogs.{states_within, drops_are_within, asks_have_place, clocks_below, letters_left_fit}

pub returns : goal.returns
returns c = record { within = states_within; drops = drops_are_within; asks = asks_have_place; clocks = clocks_below; letters = letters_left_fit }
