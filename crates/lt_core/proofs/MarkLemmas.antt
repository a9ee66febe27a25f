-- What is made of an ask that was given up, and of one that wasn't.
use Rattle.std.proofs.Common.{◌≡◌, ◌∙◌, ◌==◌, ◌&&◌, ◌||◌, ℕ, Bool, true, false, List, [], ◌∷◌, ap, refl, not, if◌then◌else◌, Option, Some, None, is_some}
use Rattle.std.specs.List.{list_any}
use Rattle.lt_modes.specs.State.{SetState, Made, without}
use Rattle.lt_modes.specs.Serving.{answered, answer_event, is_gone, without_gone}
use Rattle.lt_modes.specs.SetMove.{answers, same_wish}
use Rattle.lt_modes.specs.declared.ask.Ask.{Ask}
use Rattle.lt_modes.specs.declared.event.Event.TheVariants.{Void}
use Rattle.lt_modes.specs.Waiting.{pending_ask, waits}
use Rattle.lt_core.specs.Steps.{answer_ask, grant_ask, live_ask, void_ask}
use Rattle.lt_core.proofs.BoundLemmas.{find_some}
use Rattle.lt_core.specs.CoreData.{wish}

-- where the client isn't among them, nothing changes without it
pub none_gone : (gone : List ℕ) (client : ℕ) → list_any (λ other. other == client) gone ≡ false → without_gone gone client ≡ gone
none_gone [] client e = refl
none_gone (other ∷ rest) client e = by_test (other == client) e (none_gone rest client)
  where
    by_test : (t : Bool) → (t || list_any (λ x. x == client) rest) ≡ false
        → (list_any (λ x. x == client) rest ≡ false → without_gone rest client ≡ rest)
        → (if not t then other ∷ without_gone rest client else without_gone rest client) ≡ other ∷ rest
    by_test true e later = cc
    by_test false e later = ap (λ (l : List ℕ). other ∷ l) (later e)

abbrev answer_by : ℕ → Ask → SetState → Bool → Made
answer_by set ask s gone =
    answers (if gone then Void ask.client set ask.mode else answer_event set ask)
    (record s {
      held = if gone then s.held else answered s.held ask;
      pending = without s.pending ask.stamp;
      gone = without_gone s.gone ask.client;
    })

pub answered_void : (set : ℕ) (ask : Ask) (s : SetState) → is_gone s ask.client ≡ true → answer_ask set ask s ≡ void_ask set ask s
answered_void set ask s gone = ap (answer_by set ask s) gone

pub answered_live : (set : ℕ) (ask : Ask) (s : SetState) → is_gone s ask.client ≡ false → answer_ask set ask s ≡ grant_ask set ask s
answered_live set ask s live =
    ap (answer_by set ask s) live
    ∙ (λ i. answers (answer_event set ask)
    (record s { held = answered s.held ask; pending = without s.pending ask.stamp; gone = none_gone s.gone ask.client live i }))

-- an ask wants what is asked by its mode, and by what it gives up
pub wants_same : (ask : Ask) (old : Option Ask) → same_wish ask old ≡ same_wish (wish ask.mode ask.gives_up) old
wants_same ask None = refl
wants_same ask (Some old) = refl

-- a client waits exactly where an ask of it is live

waits_by : (s : SetState) (client : ℕ) (found gone : Bool) → is_some (pending_ask s client) ≡ found
    → is_some (if gone then None else pending_ask s client) ≡ (found && not gone)
waits_by s client true true e = refl
waits_by s client false true e = refl
waits_by s client true false e = e
waits_by s client false false e = e

pub live_some : (s : SetState) (client : ℕ) → is_some (live_ask s client) ≡ waits s client
live_some s client =
    waits_by s client (list_any (λ (ask : Ask). ask.client == client) s.pending) (is_gone s client)
    (find_some (λ (ask : Ask). ask.client == client) s.pending)
