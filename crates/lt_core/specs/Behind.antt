-- What is parked behind an older ask.
use Rattle.std.specs.Prelude.{ℕ, Bool, false, ◌==◌, ◌&&◌}
use Rattle.lt_modes.specs.State.{SetState, Parked, ParkedAsk, ParkedTell}
use Rattle.lt_modes.specs.Waiting.{has_older}

-- it is an ask of the client, and an older one of the other client is unanswered here
abbrev pub is_behind_older : SetState → ℕ → ℕ → Parked → Bool
is_behind_older s other client (ParkedAsk ask) = ask.client == client && has_older s other ask
is_behind_older s other client (ParkedTell tell) = false
