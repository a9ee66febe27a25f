-- Each of the laws.
use Rattle.lt_law_apart_sessions.proofs.ApartSessions.{served_apart, apart_in_turn, held_apart, apart_exclude}
use Rattle.lt_law_apart_sessions.proofs.SealedNodes.{carried_if_sealed}
use Rattle.lt_law_apart_sessions.proofs.laws.law_apart_sessions.Goals as goal

pub returns : goal.returns
returns c = record {
  served = served_apart;
  turn = apart_in_turn;
  held = held_apart;
  exclude = apart_exclude;
  sealed = carried_if_sealed;
}
