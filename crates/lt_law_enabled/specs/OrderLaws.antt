-- Where a world rests, which moves are enabled, and how they stand in the fixed order.
use Rattle.lt_modes.specs.Serving.{is_gone}
use Rattle.std.specs.Prelude.{◌≡◌, ◌≢◌, ◌<◌, ◌≤◌, ◌⊎◌, ◌↔◌, ℕ, [], length, Some, IsTrue, IsFalse, IsNone, Contains, true, false}
use Rattle.lt_modes.specs.declared.ask.Ask.{Ask}
use Rattle.lt_modes.specs.declared.moves.Step.{Step}
use Rattle.lt_modes.specs.declared.moves.Step.TheVariants.{Act, Take}
use Rattle.lt_modes.specs.Script.{ScriptData}
use Rattle.lt_spec.specs.NodeMove.{home, commands_of, NodeState, next_command, withdraws_itself}
use Rattle.lt_spec.specs.World.{World, made_by, is_enabled, is_at_rest}
use Rattle.lt_spec.specs.FixedOrder.{Turn, count_turns, pick}

-- at rest exactly where no move of any node is enabled
abbrev pub RestsWithoutMove : Type 0
RestsWithoutMove = (script : ScriptData) (w : World)
    → IsTrue (is_at_rest script w) ↔ ((q : ℕ) (step : Step) → IsFalse (is_enabled script w q step))

-- no ask of the client is unanswered at the node that it didn't give up
abbrev pub WaitsForNothing : ScriptData → NodeState → ℕ → Type 0
WaitsForNothing script n client = (s : ℕ) → s < length script.sets → (ask : Ask) → Contains (n.set s).pending ask
    → is_gone (n.set s) client ≡ false → ask.client ≢ client

-- the client is of the script and of node q, it waits for nothing, or its next command gives up what it waits for, and it has
-- a command left
pub record MayAct (script : ScriptData) (w : World) (q client : ℕ) : Type 0 where
  pub declared : client < length script.clients
  pub at_home : home script client ≡ q
  pub answered : WaitsForNothing script (w.node q) client ⊎ (withdraws_itself (w.node q) client (next_command script (w.node q) client) ≡ true)
  pub command_left : (w.node q).made client < length (commands_of script client)

-- an act is enabled exactly where its client may act
abbrev pub ActsWhereItMay : Type 0
ActsWhereItMay = (script : ScriptData) (w : World) (q client : ℕ)
    → IsTrue (is_enabled script w q (Act client)) ↔ MayAct script w q client

-- a letter is on its way between two nodes of the script
pub record HasLetter (script : ScriptData) (w : World) (p q : ℕ) : Type 0 where
  pub sender : p < script.nodes
  pub receiver : q < script.nodes
  pub apart : p ≢ q
  pub letter : w.mail p q ≢ []

-- a take is enabled exactly where a letter is on its way
abbrev pub TakesWhereMailIs : Type 0
TakesWhereMailIs = (script : ScriptData) (w : World) (p q : ℕ)
    → IsTrue (is_enabled script w q (Take p)) ↔ HasLetter script w p q

-- less by the first numbers, or where these are equal by the second ones
abbrev pub IsLessByTwo : ℕ → ℕ → ℕ → ℕ → Type 0
IsLessByTwo m n a b = (m < n) ⊎ ((m ≡ n) × (a < b))

-- the fixed order of moves: takes before acts, a take by its receiver and then by its sender,
-- an act by how many commands its client has made and then by the client's number
abbrev pub StepBefore : ScriptData → World → ℕ → ℕ → Step → Step → Type 0
StepBefore script w q r (Take p) (Take o) = IsLessByTwo q r p o
StepBefore script w q r (Take p) (Act client) = Unit {0}
StepBefore script w q r (Act client) (Take o) = ⊥
StepBefore script w q r (Act client) (Act other) = IsLessByTwo (made_by script w client) (made_by script w other) client other

-- the move is enabled, and no enabled move comes before it
pub record IsFirstTurn (script : ScriptData) (w : World) (turn : Turn) : Type 0 where
  pub enabled : IsTrue (is_enabled script w turn.node turn.step)
  pub leads : (q : ℕ) (step : Step) → IsTrue (is_enabled script w q step) → StepBefore script w q turn.node step turn.step → ⊥

-- the move at place 0 is the first one
abbrev pub PicksFirst : Type 0
PicksFirst = (script : ScriptData) (w : World) (turn : Turn) → pick script w 0 ≡ Some turn → IsFirstTurn script w turn

-- no move is at a place exactly where there are no more moves than that
abbrev pub PicksWithinCount : Type 0
PicksWithinCount = (script : ScriptData) (w : World) (k : ℕ) → IsNone (pick script w k) ↔ (count_turns script w ≤ k)
