use Rattle.lt_law_replies.proofs.ReplyRuns.{replies_in_turn, log_in_turn, one_reply_each, unanswered_wait, asks_answer_next}
use Rattle.lt_law_replies.proofs.laws.law_replies.Goals as goal

pub returns : goal.returns
returns c = record {
  turn = replies_in_turn;
  log = log_in_turn;
  each = one_reply_each;
  unanswered = unanswered_wait;
  next = asks_answer_next;
}
