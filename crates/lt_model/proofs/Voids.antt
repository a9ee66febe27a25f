-- Asks that were given up: what a command makes of them, and what an answer to them is.
use Rattle.std.proofs.Common.{◌≡◌, ℕ, [], ◌∷◌, Bool, true, false, refl, if◌then◌else◌}
use Rattle.lt_modes.specs.declared.stamp.Stamp.{Stamp}
use Rattle.lt_modes.specs.declared.ask.Ask.{Ask}
use Rattle.lt_modes.specs.declared.event.Event.TheVariants.{Wait, Withheld, Void, Withdraw}
use Rattle.lt_modes.specs.State.{SetState, Made, without}
use Rattle.lt_modes.specs.Serving.{without_gone, is_gone, answered, answer_event, ask_at, served}
use Rattle.lt_modes.specs.Waiting.{waits, pending_ask}
use Rattle.lt_modes.specs.SetMove.{answers, asked, retaken, asked_or_not, same_wish, given_up, withdrawn}
use Rattle.lt_modes.specs.Taking.{charged}

-- a client asks, or takes an ask up again that it gave up, or neither
pub asks_ways : (Q : Made → Type 0) (set : ℕ) (stamp : Stamp) (ask : Ask) (t : SetState)
    → (is_gone t ask.client ≡ false → Q (asked set stamp ask t))
    → (is_gone t ask.client ≡ true → same_wish ask (pending_ask t ask.client) ≡ true
    → Q (answers (Wait ask.client set ask.mode) (record t { gone = without_gone t.gone ask.client })))
    → Q (answers (Withheld ask.client set ask.mode) t) → Q (asked_or_not set stamp ask t)
asks_ways Q set stamp ask t asks retakes withheld = by_gone (is_gone t ask.client) refl
  where
    by_wish : is_gone t ask.client ≡ true → (same : Bool) → same_wish ask (pending_ask t ask.client) ≡ same
        → Q (if same
        then answers (Wait ask.client set ask.mode) (record t { gone = without_gone t.gone ask.client })
        else answers (Withheld ask.client set ask.mode) t)
    by_wish e true f = retakes e f
    by_wish e false f = withheld

    by_gone : (gone : Bool) → is_gone t ask.client ≡ gone → Q (if gone then retaken set ask t else asked set stamp ask t)
    by_gone true e = by_wish e (same_wish ask (pending_ask t ask.client)) refl
    by_gone false e = asks e

-- the other client waits here or not
pub withdraws_ways : (Q : Made → Type 0) (set client other : ℕ) (t : SetState) → (waits t other ≡ true → Q (given_up set client other t))
    → (waits t other ≡ false → Q (answers (Withdraw client other set false) t)) → Q (withdrawn set client other t)
withdraws_ways Q set client other t gives not_so = by_test (waits t other) refl
  where
    by_test : (waiting : Bool) → waits t other ≡ waiting
        → Q (if waiting then given_up set client other t else answers (Withdraw client other set false) t)
    by_test true e = gives e
    by_test false e = not_so e

-- a local service, where the ask was given up or not
abbrev pub local_by : ℕ → ℕ → SetState → Bool → Made
local_by set k t gone = record {
  state = record (served t k) { held = if gone then t.held else answered t.held (ask_at t k) };
  posts = [];
  events = (if gone then Void (ask_at t k).client set (ask_at t k).mode else answer_event set (ask_at t k)) ∷ [];
}

-- a copy that is taken, where its ask was given up or not
abbrev pub copy_by : ℕ → Ask → SetState → Bool → Made
copy_by set ask t gone = record {
  state = record t {
    held = if gone then t.held else answered t.held ask;
    pending = without t.pending ask.stamp;
    gone = without_gone t.gone ask.client;
    charge = charged t ask;
  };
  posts = [];
  events = (if gone then Void ask.client set ask.mode else answer_event set ask) ∷ [];
}
