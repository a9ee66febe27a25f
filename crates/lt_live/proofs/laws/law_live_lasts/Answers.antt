use Rattle.lt_live.proofs.laws.law_live_lasts.Goals as goal
use Rattle.lt_live.proofs.Settling.{opened_are_live, live_lasts, one_station_lasts, one_session_lasts}

pub returns : goal.returns
returns c = record { opened = opened_are_live; last = live_lasts; one_station = one_station_lasts; one_session = one_session_lasts }
