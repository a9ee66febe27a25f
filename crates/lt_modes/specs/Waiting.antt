-- Who waits for an ask of a set, and which asks stand before it here.
use Rattle.std.specs.Prelude.{Bool, false, ◌&&◌, ◌||◌, ◌==◌, ℕ, List, [], ◌∷◌, Option, find, not}
use Rattle.std.specs.List.{list_any}
use Rattle.lt_modes.specs.declared.ask.Ask.{Ask}
use Rattle.lt_modes.specs.Modes.{excludes_itself}
use Rattle.lt_modes.specs.State.{SetState}
use Rattle.lt_modes.specs.Fits.{parked_asks, has_client}
use Rattle.lt_modes.specs.Serving.{queue_of, is_gone}
use Rattle.lt_modes.specs.Telling.{is_newer}

-- an ask of the client is unanswered, and wasn't given up
abbrev pub waits : SetState → ℕ → Bool
waits s client = list_any (λ (ask : Ask). ask.client == client) s.pending && not (is_gone s client)

-- the client's first unanswered ask here, where it has one
abbrev pub pending_ask : SetState → ℕ → Option Ask
pending_ask s client = find (λ (ask : Ask). ask.client == client) s.pending

-- an ask of the first client stands before one of the second
abbrev pub is_before : ℕ → ℕ → List Ask → Bool
is_before first second [] = false
is_before first second (ask ∷ rest) = (ask.client == first && has_client second rest) || is_before first second rest

-- in the queue of the desk here the other client's ask stands before the client's
abbrev pub stands_before : SetState → ℕ → ℕ → Bool
stands_before s other client = is_before other client (queue_of s)

-- an older ask of the other client, for a mode that excludes itself, is unanswered here
abbrev pub has_older : SetState → ℕ → Ask → Bool
has_older s other ask =
    list_any (λ (older : Ask). older.client == other && (excludes_itself older.mode && is_newer ask.stamp older.stamp)) s.pending

-- the client's ask is parked here behind one of the other client
abbrev pub parked_behind : SetState → ℕ → ℕ → Bool
parked_behind s other client = list_any (λ (ask : Ask). ask.client == client && has_older s other ask) (parked_asks s)
