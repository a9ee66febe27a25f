-- Which nodes can make a move.
use Rattle.std.specs.Prelude.{◌≡◌, ◌<◌, ◌≤◌, ◌↔◌, false, ◌||◌, ℕ, length, IsTrue, ◌+◌, ◌^◌, List, ◌++◌, Some, slice_get, Contains}
use Rattle.lt_modes.specs.declared.moves.Step.{Step}
use Rattle.lt_modes.specs.Script.{ScriptData}
use Rattle.lt_modes.specs.State.{Letter}
use Rattle.lt_modes.specs.Fits.{fits, numbers_of}
use Rattle.lt_lists.specs.Below.{any_below}
use Rattle.lt_spec.specs.World.{World, has_mail, is_enabled, is_at_rest, can_move}
use Rattle.lt_spec.specs.Script.{IsScript}
use Rattle.lt_spec.specs.declared.limits.TheConstants.{MAX_COMMANDS_OF_SERVICE}
use Rattle.lt_spec.specs.declared.moves.TheConstants.{MAX_MOVES_OF_SERVICE}
use Rattle.lt_spec.specs.Plays.{can_act}
use Rattle.lt_spec.specs.NodeMove.{related, locks_in_sets}
use Rattle.lt_spec.specs.Limits.{node_within, leaves_asks}
use Rattle.lt_law_plays.specs.Merged.{Part, Joined}

-- a node can make a move where a letter is on its way to it, or a client can act by what the node alone knows
abbrev pub CanMoveIsSeen : Type 0
CanMoveIsSeen = (script : ScriptData) (w : World) (q : ℕ)
    → can_move script w q ≡ (any_below script.nodes (λ p. has_mail script w p q) || any_below (length script.clients) (can_act script q (w.node q)))

-- that is where one of its moves is enabled
abbrev pub CanMoveIsEnabled : Type 0
CanMoveIsEnabled = (script : ScriptData) (w : World) (q : ℕ)
    → IsTrue (can_move script w q) ↔ ((step : Step) × IsTrue (is_enabled script w q step))

-- a world is at rest exactly where no node can make a move
abbrev pub RestIsNoMove : Type 0
RestIsNoMove = (script : ScriptData) (w : World) → IsScript script
    → IsTrue (is_at_rest script w) ↔ ((q : ℕ) → q < script.nodes → can_move script w q ≡ false)

-- What nodes keep and are sent in joined plays, as statements.

-- each node keeps no more than a script's limits allow
abbrev pub StatesWithin : Type 0
StatesWithin = (script : ScriptData) (parts : List Part) → IsScript script → Joined script parts
    → (q : ℕ) (part : Part) → slice_get parts q ≡ Some part → IsTrue (node_within script part.last)

-- no client has more locks in a family there than a service has commands
abbrev pub DropsWithin : Type 0
DropsWithin = (script : ScriptData) (parts : List Part) → IsScript script → Joined script parts
    → (q : ℕ) (part : Part) → slice_get parts q ≡ Some part → (client s : ℕ)
    → locks_in_sets part.last client (related script s) ≤ MAX_COMMANDS_OF_SERVICE

-- and where a client of it can act, there is a place for a further ask in each set
abbrev pub AsksHavePlace : Type 0
AsksHavePlace = (script : ScriptData) (parts : List Part) → IsScript script → Joined script parts
    → (q client : ℕ) (part : Part) → slice_get parts q ≡ Some part → IsTrue (can_act script q part.last client) → IsTrue (leaves_asks script part.last client)

-- no node made more moves than one of a service may
abbrev pub FewMoves : List Part → Type 0
FewMoves parts = (q : ℕ) (part : Part) → slice_get parts q ≡ Some part → length part.log ≤ MAX_MOVES_OF_SERVICE

-- then no clock is at its bound
abbrev pub ClocksBelow : Type 0
ClocksBelow = (script : ScriptData) (parts : List Part) → IsScript script → Joined script parts → FewMoves parts
    → (q : ℕ) (part : Part) → slice_get parts q ≡ Some part → part.last.clock + 1 < 2 ^ 62

-- and each letter that was sent and not used fits its receiver
abbrev pub LettersLeftFit : Type 0
LettersLeftFit = (script : ScriptData) (parts : List Part) → IsScript script → Joined script parts → FewMoves parts
    → (p q : ℕ) (a b : Part) (rest : List Letter) (letter : Letter) → slice_get parts p ≡ Some a → slice_get parts q ≡ Some b
    → a.sent q ≡ b.used p ++ rest → Contains rest letter
    → IsTrue (fits (numbers_of script) q b.last.clock (b.last.set letter.set) letter)
