use Rattle.lt_law_plays.proofs.laws.law_plays.Goals as goal
use Rattle.lt_law_plays.proofs.PlayLemmas.{one_move_plays, plays_join, plays_grow, plays_rise, plays_send_stamped, takes_nothing_of_itself, takes_nothing_from_beyond}

pub returns : goal.returns
returns c = record { one = one_move_plays; join = plays_join; grow = plays_grow; rise = plays_rise; sent = plays_send_stamped; own = takes_nothing_of_itself; beyond = takes_nothing_from_beyond }
