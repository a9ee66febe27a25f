-- What the laws say of a world: tokens, places of asks, the reasons of waits at rest, and where the desk is.
use Rattle.std.specs.Prelude.{◌≡◌, ◌==◌, ◌<◌, ℕ, ◌+◌, List, [], ◌∷◌, if◌then◌else◌, IsTrue, is_some, sum_by, Contains, Option, Some, None}
use Rattle.lt_modes.specs.State.{times_in, same_ask, SetState, Body, AskBody, TellBody, CopyBody, TokenBody, FreezeBody, Letter, Parked, ParkedAsk, ParkedTell, Desk}
use Rattle.lt_modes.specs.declared.ask.Ask.{Ask}
use Rattle.lt_modes.specs.Modes.{excludes_itself}
use Rattle.lt_modes.specs.Script.{ScriptData}
use Rattle.lt_modes.specs.Serving.{queue_of}
use Rattle.lt_modes.specs.Telling.{is_newer}
use Rattle.lt_lists.specs.Below.{one_if, sum_below}
use Rattle.lt_spec.specs.World.{World}

-- what node q keeps for set s
abbrev pub state_at : World → ℕ → ℕ → SetState
state_at w s q = (w.node q).set s

-- what the states of the set weigh at all nodes, with what its letters weigh
abbrev pub weight : ScriptData → World → ℕ → (SetState → ℕ) → (Body → ℕ) → ℕ
weight script w s of_state of_body =
    sum_below script.nodes (λ q. of_state (state_at w s q))
    + sum_below script.nodes (λ p. sum_below script.nodes (λ q.
    sum_by (λ (letter : Letter). if letter.set == s then of_body letter.body else 0) (w.mail p q)))

abbrev pub tokens_in : Body → ℕ
tokens_in (TokenBody desk) = 1
tokens_in (AskBody ask marked) = 0
tokens_in (TellBody tell) = 0
tokens_in (CopyBody ask) = 0
tokens_in (FreezeBody number modes) = 0

-- how many tokens the set has: nodes with its desk, and letters that carry it
abbrev pub token_count : ScriptData → World → ℕ → ℕ
token_count script w s = weight script w s (λ state. one_if (is_some state.desk)) tokens_in

abbrev pub times_parked : Ask → Parked → ℕ
times_parked ask (ParkedAsk other) = one_if (same_ask ask other)
times_parked ask (ParkedTell tell) = 0

abbrev pub places_in_state : Ask → SetState → ℕ
places_in_state ask s = sum_by (times_parked ask) s.parked + times_in ask (queue_of s)

abbrev pub places_in_body : Ask → Body → ℕ
places_in_body ask (AskBody other marked) = one_if (same_ask ask other)
places_in_body ask (CopyBody other) = one_if (same_ask ask other)
places_in_body ask (TokenBody desk) = times_in ask desk.queue
places_in_body ask (TellBody tell) = 0
places_in_body ask (FreezeBody number modes) = 0

-- how often an ask of the set stands parked, in the queue of a desk at a node or in a letter,
-- in a letter of its own, or in a copy that answers it
abbrev pub place_count : ScriptData → World → ℕ → Ask → ℕ
place_count script w s ask = weight script w s (places_in_state ask) (places_in_body ask)

-- the ask stands first in the queue of the set's desk, which is at a node
abbrev pub IsFirstWaiter : ScriptData → World → ℕ → Ask → Type 0
IsFirstWaiter script w s ask =
    (q : ℕ) × (rest : List Ask) × (q < script.nodes) × (queue_of (state_at w s q) ≡ ask ∷ rest)

-- the later ask is parked at the node of an older taking ask that is unanswered
pub record StandsBehind (w : World) (s : ℕ) (later older : Ask) : Type 0 where
  pub parked : Contains (state_at w s older.node).parked (ParkedAsk later)
  pub unanswered : Contains (state_at w s older.node).pending older
  pub taking : IsTrue (excludes_itself older.mode)
  pub younger : IsTrue (is_newer later.stamp older.stamp)

-- each of these asks stands behind the next one, and the last one stands in the queue of a desk
abbrev pub LeadsBy : ScriptData → World → ℕ → Ask → List Ask → Type 0
LeadsBy script w s ask [] = (q : ℕ) × (q < script.nodes) × Contains (queue_of (state_at w s q)) ask
LeadsBy script w s ask (older ∷ rest) = StandsBehind w s ask older × LeadsBy script w s older rest

-- a chain of asks, each behind an older one, leads the ask to the queue
abbrev pub IsLedToQueue : ScriptData → World → ℕ → Ask → Type 0
IsLedToQueue script w s ask = (chain : List Ask) × LeadsBy script w s ask chain

-- Which letters of a set are on their way, and where its desk is.

-- the letter is one of the set's on its way from p to q
pub record OnWay (w : World) (s p q : ℕ) (letter : Letter) : Type 0 where
  pub among : Contains (w.mail p q) letter
  pub set : letter.set ≡ s

-- a letter of the set that says this is on its way to q
abbrev pub Comes : ScriptData → World → ℕ → ℕ → Body → Type 0
Comes script w s q body =
    (p : ℕ) × (letter : Letter) × (p < script.nodes) × OnWay w s p q letter × (letter.body ≡ body)

-- the set's desk is this one: at a node, or in a letter on its way
abbrev pub DeskIs : ScriptData → World → ℕ → Option ℕ → Desk → Type 0
DeskIs script w s (Some t) desk = (t < script.nodes) × ((state_at w s t).desk ≡ Some desk)
DeskIs script w s None desk = (q : ℕ) × (q < script.nodes) × Comes script w s q (TokenBody desk)
