-- The move that a runner shows.
use Rattle.std.specs.Prelude.{Bool, ◌&&◌, nat_lt, ℕ, zero, suc, Option, Some, None, if◌then◌else◌, length}
use Rattle.lt_modes.specs.Script.{ScriptData}
use Rattle.lt_modes.specs.State.{Letter}
use Rattle.lt_modes.specs.Fits.{fits, numbers_of}
use Rattle.lt_desk.specs.LetterSeen.{letter_seen}
use Rattle.lt_spec.specs.NodeMove.{NodeState}
use Rattle.lt_spec.specs.Plays.{can_act}
use Rattle.lt_node.specs.NodeData.{state_of}
use Rattle.lt_node.specs.Touched.{leaves_room_to_act, leaves_room_to_take}
use Rattle.lt_core.specs.declared.fits.TheConstants.{LAST_CLOCK}
use Rattle.lt_runner.specs.declared.choice.Choice.{Choice}
use Rattle.lt_runner.specs.declared.choice.Choice.TheVariants.{Nothing, Act, Take}
use Rattle.lt_runner.specs.declared.parts.Hand.{Hand}
use Rattle.lt_runner.specs.declared.parts.Parts.{Parts}

abbrev pub or_this : Option ℕ → (ℕ → Bool) → ℕ → Option ℕ
or_this (Some least) test n = Some least
or_this None test n = if test n then Some n else None

-- the least number below n that passes
abbrev pub least_below : ℕ → (ℕ → Bool) → Option ℕ
least_below zero test = None
least_below (suc n) test = or_this (least_below n test) test n

-- the first client of the node that can act
abbrev pub first_client : ScriptData → ℕ → NodeState → Option ℕ
first_client script me n = least_below (length script.clients) (can_act script me n)

-- the clock has not met its bound
abbrev pub has_time : NodeState → Bool
has_time n = nat_lt n.clock LAST_CLOCK

-- there is time, and the sets that the client's next command touches leave room for it
abbrev pub may_act : ScriptData → NodeState → ℕ → Bool
may_act script n client = has_time n && leaves_room_to_act script n client

-- there is time, the letter fits, and its set leaves room for it
abbrev pub may_take : ScriptData → ℕ → NodeState → Letter → Bool
may_take script me n letter =
    has_time n && (fits (numbers_of script) me n.clock (n.set letter.set) letter && leaves_room_to_take n letter)

-- the next command of this client, if it may be made
abbrev pub act_if : ScriptData → NodeState → Option ℕ → Choice
act_if script n None = Nothing
act_if script n (Some client) = if may_act script n client then Act client else Nothing

-- the command of the first client that can act
abbrev pub act_choice : ScriptData → ℕ → NodeState → Choice
act_choice script me n = act_if script n (first_client script me n)

-- the letter in hand comes first, and where it doesn't fit the clients are asked
abbrev pub choice_by : ScriptData → ℕ → NodeState → Option Hand → Choice
choice_by script me n None = act_choice script me n
choice_by script me n (Some hand) = if may_take script me n (letter_seen hand.letter) then Take else act_choice script me n

abbrev pub next_choice : Parts → Choice
next_choice p = choice_by p.node.script p.node.me (state_of p.node) p.hand

-- the node that the letter came from, where it doesn't fit
abbrev pub misfit_by : ScriptData → ℕ → NodeState → Option Hand → Option ℕ
misfit_by script me n None = None
misfit_by script me n (Some hand) =
    if fits (numbers_of script) me n.clock (n.set hand.letter.set) (letter_seen hand.letter) then None else Some hand.from

-- the node that the letter in hand came from, where it doesn't fit
abbrev pub misfit : Parts → Option ℕ
misfit p = misfit_by p.node.script p.node.me (state_of p.node) p.hand
