-- A script that is made from a seed.
use Rattle.std.specs.Prelude.{[], ◌∷◌, ◌++◌, ℕ, List, codes, ◌≡◌, ◌<◌, Some, length, take, Contains, IsTrue, ◌==◌, ◌&&◌, if◌then◌else◌, slice_index_or, slice_get, IsFalse, Bool, false, true, ◌↔◌}
use Rattle.lt_modes.specs.declared.event.Event.TheVariants.{Try as TryLine}
use Rattle.lt_modes.specs.declared.mode.Mode.{Mode}
use Rattle.lt_modes.specs.declared.mode.Mode.TheVariants.{IntentionRead, Read, Upgrade, IntentionWrite, Write}
use Rattle.lt_modes.specs.declared.command.Command.TheVariants.{Lock, Try, Unlock, Change}
use Rattle.lt_modes.specs.Script.{ScriptData}
use Rattle.lt_modes.specs.declared.ask.Ask.{Ask}
use Rattle.lt_modes.specs.declared.parts.Row.{Row}
use Rattle.lt_modes.specs.declared.moves.Step.{Step}
use Rattle.lt_modes.specs.State.{Desk, SetState, Body, Letter, Parked, AskBody, CopyBody, TokenBody, ParkedAsk}
use Rattle.lt_modes.specs.Freezing.{frozen_by}
use Rattle.lt_modes.specs.Granting.{can_grant}
use Rattle.lt_modes.specs.Modes.{conflicts}
use Rattle.lt_modes.specs.Serving.{ask_at, is_gone}
use Rattle.lt_spec.specs.Holdings.{WaitsFor, lines_of, HasOpenWait, IsBarredByLines}
use Rattle.lt_spec.specs.NodeMove.{home}
use Rattle.lt_spec.specs.Facts.{state_at, IsLedToQueue, token_count, place_count, IsFirstWaiter}
use Rattle.lt_spec.specs.World.{Logged, World, world_after, is_at_rest, is_enabled, move_stamp}
use Rattle.lt_spec.specs.Promised.{sets_of_step, ServesInTurn, Promised, Service, services, before_end, IsInTurn, AsksStandOnce, IsFrozenByQueue}
use Rattle.lt_law_examples.specs.Worked.{declared_set, declared_client, owner}
use Rattle.lt_law_examples.specs.Snapshot.{blank, untouched_set, stamp, new_ask}

-- The script of 2 nodes, 3 clients and 20 commands that is made from the seed 233: groups of each kind, with each mode.
abbrev pub made_from_233 : ScriptData
made_from_233 = record {
  version = 1;
  nodes = 2;
  sets =
      declared_set (codes "s0") 0 ∷
      declared_set (codes "s1") 1 ∷
      declared_set (codes "s2") 2 ∷
      declared_set (codes "s3") 3 ∷
      [];
  clients =
      declared_client (codes "c0") 0 ∷
      declared_client (codes "c1") 1 ∷
      declared_client (codes "c2") 0 ∷
      [];
  commands =
      (0, Lock 1 Upgrade) ∷
      (0, Change 1 Upgrade Write) ∷
      (0, Unlock 1 Write) ∷
      (1, Lock 2 Write) ∷
      (1, Unlock 2 Write) ∷
      (2, Try 3 Read) ∷
      (2, Unlock 3 Read) ∷
      (0, Try 2 Upgrade) ∷
      (0, Unlock 2 Upgrade) ∷
      (1, Lock 0 IntentionRead) ∷
      (1, Unlock 0 IntentionRead) ∷
      (2, Lock 2 Read) ∷
      (2, Unlock 2 Read) ∷
      (0, Lock 1 IntentionWrite) ∷
      (0, Unlock 1 IntentionWrite) ∷
      (1, Lock 1 Upgrade) ∷
      (1, Change 1 Upgrade Write) ∷
      (1, Unlock 1 Write) ∷
      (2, Lock 3 Upgrade) ∷
      (2, Unlock 3 Upgrade) ∷
      [];
}

abbrev pub made_text : List ℕ
made_text =
    codes "nodes 2\n"
    ++ codes "set s0\n"
    ++ codes "set s1\n"
    ++ codes "set s2\n"
    ++ codes "set s3\n"
    ++ codes "client c0 at 0\n"
    ++ codes "client c1 at 1\n"
    ++ codes "client c2 at 0\n"
    ++ codes "c0 lock s1 upgrade\n"
    ++ codes "c0 change s1 upgrade write\n"
    ++ codes "c0 unlock s1 write\n"
    ++ codes "c1 lock s2 write\n"
    ++ codes "c1 unlock s2 write\n"
    ++ codes "c2 try s3 read\n"
    ++ codes "c2 unlock s3 read\n"
    ++ codes "c0 try s2 upgrade\n"
    ++ codes "c0 unlock s2 upgrade\n"
    ++ codes "c1 lock s0 intention_read\n"
    ++ codes "c1 unlock s0 intention_read\n"
    ++ codes "c2 lock s2 read\n"
    ++ codes "c2 unlock s2 read\n"
    ++ codes "c0 lock s1 intention_write\n"
    ++ codes "c0 unlock s1 intention_write\n"
    ++ codes "c1 lock s1 upgrade\n"
    ++ codes "c1 change s1 upgrade write\n"
    ++ codes "c1 unlock s1 write\n"
    ++ codes "c2 lock s3 upgrade\n"
    ++ codes "c2 unlock s3 upgrade\n"

-- What the promise says of any entries where no run lacks it alone, spelled out.

-- a fact of the world after each of the first entries, of each script and all entries that are promised
abbrev pub OfPromised : (ScriptData → World → Type 0) → Type 0
OfPromised fact = (script : ScriptData) (run : List Logged) → Promised script run → (k : ℕ) → fact script (world_after script (take k run))

-- a fact of the first entries
abbrev pub OfPromisedMoves : (ScriptData → List Logged → Type 0) → Type 0
OfPromisedMoves fact =
    (script : ScriptData) (run : List Logged) → Promised script run → (k : ℕ) → fact script (take k run)

pub record PromisedOpens : Type 0 where
  -- in each set a client has an open `wait` line exactly where an unanswered ask of it wants the mode
  pub waits : OfPromisedMoves (λ script run. (client s : ℕ) (mode : Mode) → client < length script.clients
      → s < length script.sets
      → HasOpenWait client s mode (lines_of run) ↔ WaitsFor script (world_after script run) client s mode)
  -- each `try` of any set is answered as the client's own node could grant before the move
  pub tries : (script : ScriptData) (run : List Logged) → Promised script run → (k client s : ℕ) (entry : Logged)
      (mode : Mode) (got : Bool) → slice_get run k ≡ Some entry → Contains entry.events (TryLine client s mode got)
      → got
      ≡ can_grant (home script client) (state_at (world_after script (take k run)) s (home script client)) client mode
  -- at rest the first who waits in a set conflicts with a lock that another client holds
  pub first : OfPromisedMoves (λ script run. (s : ℕ) (ask : Ask) → IsTrue (is_at_rest script (world_after script run))
      → s < length script.sets → IsFirstWaiter script (world_after script run) s ask
      → IsBarredByLines script (lines_of run) s ask)
  -- each enabled move serves in turn each set that it touches
  pub in_turn : OfPromised (λ script w. (s q : ℕ) (step : Step) → IsTrue (is_enabled script w q step)
      → Contains (sets_of_step script w q step) s → ServesInTurn script w q step s)
  -- at rest each unanswered ask is led to the queue
  pub led : OfPromised (λ script w. (s x : ℕ) (ask : Ask) → IsTrue (is_at_rest script w) → s < length script.sets → x < script.nodes
      → Contains (state_at w s x).pending ask → IsLedToQueue script w s ask)
  -- at rest each node with a lock keeps frozen what the queue of the desk freezes, which is at a node
  pub frozen : OfPromised (λ script w. (s x : ℕ) (row : Row) → IsTrue (is_at_rest script w) → s < length script.sets → x < script.nodes
      → Contains (state_at w s x).held row
      → (t : ℕ) × (desk : Desk) × (t < script.nodes) × ((state_at w s t).desk ≡ Some desk) × ((state_at w s x).frozen ≡ frozen_by desk.queue))

-- Whole worlds with one fault each, which no run of the rules reaches.

-- two nodes, a set, and a client of each node
abbrev pub two_nodes : ScriptData
two_nodes = record {
  version = 1;
  nodes = 2;
  sets = declared_set (codes "s") 0 ∷ [];
  clients = declared_client (codes "a") 0 ∷ declared_client (codes "b") 1 ∷ [];
  commands = [];
}

-- each node keeps this for each set, and these letters are on their way from node 0 to node 1
abbrev pub alike : SetState → List Letter → World
alike state letters = record {
  node = λ q. record { clock = 9; made = λ c. 0; set = λ s. state };
  mail = λ p q. if p == 0 && q == 1 then letters else [];
  went = λ s. 0 ∷ [];
}

-- a letter of the first set from node 0
abbrev pub letter_of : Body → Letter
letter_of body = record { stamp = stamp 8 0; set = 0; link = owner 0 0; body = body }

-- a desk with this queue
abbrev pub desk_with : List Ask → Desk
desk_with queue = record { epoch = 0; number = 0; queue = queue; entries = blank ∷ blank ∷ [] }

-- nothing is known at the node but the desk with this queue
abbrev pub at_desk : List Ask → SetState
at_desk queue = record untouched_set { desk = Some (desk_with queue) }

abbrev pub writer : Ask
writer = new_ask 0 Write (stamp 1 0)

abbrev pub reader : Ask
reader = new_ask 1 Read (stamp 2 1)

abbrev pub old_reader : Ask
old_reader = new_ask 1 Read (stamp 0 1)

abbrev pub young_writer : Ask
young_writer = new_ask 1 Write (stamp 2 1)

abbrev pub light_reader : Ask
light_reader = new_ask 1 IntentionRead (stamp 3 1)

abbrev pub light_writer : Ask
light_writer = new_ask 0 IntentionWrite (stamp 4 0)

-- the same, and the writer is unanswered
abbrev pub waiting_at_desk : List Ask → SetState
waiting_at_desk queue = record (at_desk queue) { pending = writer ∷ [] }

-- the desk isn't here, this is parked, and these asks are unanswered
abbrev pub parked_here : List Parked → List Ask → SetState
parked_here parked pending = record untouched_set { parked = parked; pending = pending }

-- the service of the ask at this place of the queue
abbrev pub service_at : List Ask → ℕ → Service
service_at queue place = record { state = at_desk queue; place = place }

-- What is said of worlds with one fault each.

-- the first set has so many tokens
abbrev pub HasTokens : SetState → List Letter → ℕ → Type 0
HasTokens state letters count = token_count two_nodes (alike state letters) 0 ≡ count

-- the writer's ask, which is unanswered, stands so often at each node, and in the letters; that is not once
pub record StandsAmiss (state : SetState) (letters : List Letter) (count : ℕ) : Type 0 where
  pub times : place_count two_nodes (alike state letters) 0 writer ≡ count
  pub excluded : AsksStandOnce two_nodes (alike state letters) → ⊥

-- tokens at both nodes and in letters are counted, and an ask is to stand once
pub record CountsExcluded : Type 0 where
  pub no_token : HasTokens untouched_set [] 0
  pub two_desks : HasTokens (at_desk []) [] 2
  pub two_letters : HasTokens untouched_set (letter_of (TokenBody (desk_with [])) ∷ letter_of (TokenBody (desk_with [])) ∷ []) 2
  pub desks_and_letter : HasTokens (at_desk []) (letter_of (TokenBody (desk_with [])) ∷ []) 3
  pub stands_nowhere : StandsAmiss (waiting_at_desk []) [] 0
  pub stands_in_queues : StandsAmiss (waiting_at_desk (reader ∷ writer ∷ [])) [] 2
  pub stands_parked : StandsAmiss (parked_here (ParkedAsk writer ∷ []) (writer ∷ [])) [] 2
  pub stands_in_letters : StandsAmiss (parked_here [] (writer ∷ [])) (letter_of (AskBody writer false) ∷ letter_of (CopyBody writer) ∷ []) 2
  pub stands_in_tokens : StandsAmiss (parked_here [] (writer ∷ [])) (letter_of (AskBody writer true) ∷ letter_of (TokenBody (desk_with (writer ∷ []))) ∷ []) 2

-- at rest: who is the first waiter, which ask is led to the queue, and what the queue freezes
pub record StandingExcluded : Type 0 where
  -- the second ask of the queue isn't first
  pub second : IsFirstWaiter two_nodes (alike (at_desk (reader ∷ writer ∷ [])) []) 0 writer → ⊥
  -- an ask that is in no queue and isn't parked, one behind an ask that isn't taking, and one behind a younger ask
  -- aren't led
  pub nowhere : IsLedToQueue two_nodes (alike (parked_here [] (writer ∷ [])) []) 0 writer → ⊥
  pub behind_reader : IsLedToQueue two_nodes (alike (parked_here (ParkedAsk writer ∷ []) (old_reader ∷ [])) []) 0 writer → ⊥
  pub behind_younger : IsLedToQueue two_nodes (alike (parked_here (ParkedAsk writer ∷ []) (young_writer ∷ [])) []) 0 writer → ⊥
  -- nothing is frozen, and the queue freezes all; or there is no desk
  pub unfrozen : IsFrozenByQueue two_nodes (alike (at_desk (writer ∷ [])) []) 0 1 → ⊥
  pub no_desk : IsFrozenByQueue two_nodes (alike untouched_set []) 0 1 → ⊥

-- services out of turn
pub record TurnsExcluded : Type 0 where
  -- a reader before the writer that stands first
  pub before_writer : IsInTurn (service_at (writer ∷ reader ∷ []) 1) → ⊥
  -- a writer that conflicts with the first ask alone
  pub before_first : IsInTurn (service_at (reader ∷ light_reader ∷ light_writer ∷ []) 2) → ⊥
  -- a move that serves in turn has each ask of each service so, unless it was given up
  pub each : (script : ScriptData) (w : World) (q : ℕ) (step : Step) (s : ℕ) → ServesInTurn script w q step s
      → (j k : ℕ) (service : Service) → j < length (services s (move_stamp w q step) (before_end script w q step s))
      → slice_index_or (services s (move_stamp w q step) (before_end script w q step s)) j service ≡ service → k < service.place
      → is_gone service.state (ask_at service.state service.place).client ≡ false
      → IsFalse (conflicts (ask_at service.state service.place).mode (ask_at service.state k).mode)
