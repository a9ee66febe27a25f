use Rattle.std.proofs.Common.{inl, inr, refl, true}
use Rattle.lt_modes.specs.Modes.{conflicts}
use Rattle.lt_law_replies.proofs.ReplyRows.{other_mode, not_wait, not_given_up, not_void, not_withdraw}
use Rattle.lt_law_replies.proofs.laws.law_reply_rows.Goals as goal

pub returns : goal.returns
unfolding conflicts
returns c = record {
  answers = (
    inl refl,
    inr (inl refl),
    inr (inr (inl refl)),
    inr (inr (inr refl)),
    inr (inl refl),
    (true, refl),
    other_mode,
    not_wait,
    not_given_up,
    not_void,
    not_withdraw,
  );
  nothing_held = record { lines = refl; unanswered = refl };
  drops = (record { lines = refl; unanswered = refl }, record { lines = refl; unanswered = refl });
  tries = (record { lines = refl; unanswered = refl }, record { lines = refl; unanswered = refl });
  change = record { lines = refl; unanswered = refl };
  last = record { lines = refl; unanswered = refl };
  given_up = (
    (refl, record { rest = refl; held = refl; all_held = refl; waiting = refl; waits = refl; owners = refl }),
    record { lines = refl; unanswered = refl },
    record { lines = refl; unanswered = refl },
    record { lines = refl; unanswered = refl },
  );
}
