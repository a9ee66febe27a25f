-- The fixed order of the enabled moves, and the run that always makes the first one.
use Rattle.std.specs.Prelude.{Bool, true, false, ◌||◌, ◌&&◌, ◌==◌, nat_lt, ℕ, zero, suc, ◌+◌, ◌-◌, List, [], ◌∷◌, Option, Some, None, if◌then◌else◌, length, map, filter, flat_map, slice_get, option_map, option_and_then}
use Rattle.std.specs.List.{range_with_len}
use Rattle.lt_modes.specs.declared.moves.Step.{Step}
use Rattle.lt_modes.specs.declared.moves.Step.TheVariants.{Act, Take}
use Rattle.lt_modes.specs.Script.{ScriptData}
use Rattle.lt_lists.specs.Below.{first_below, count_below}
use Rattle.lt_spec.specs.World.{Logged, World, start, made_by, is_runnable, is_enabled, has_mail, logged, after}
use Rattle.lt_spec.specs.NodeMove.{home}

-- a move that a node might make
pub record Turn : Type 0 where
  pub node : ℕ
  pub step : Step

abbrev pub take_turn : ℕ → ℕ → Turn
take_turn q p = record { node = q; step = Take p }

abbrev pub act_turn : ScriptData → ℕ → Turn
act_turn script client = record { node = home script client; step = Act client }

-- the senders of letters that are on their way to q
abbrev pub senders : ScriptData → World → ℕ → List ℕ
senders script w q = filter (λ p. has_mail script w p q) (range_with_len 0 script.nodes)

-- the enabled takes, by receiver and then by sender
abbrev pub takes : ScriptData → World → List Turn
takes script w = flat_map (λ q. map (take_turn q) (senders script w q)) (range_with_len 0 script.nodes)

-- the client that has made fewer commands acts first, and of two with as many the one that was declared first
abbrev pub acts_before : ScriptData → World → ℕ → ℕ → Bool
acts_before script w a b =
    nat_lt (made_by script w a) (made_by script w b) || (made_by script w a == made_by script w b && nat_lt a b)

abbrev pub comes_after : ScriptData → World → Option ℕ → ℕ → Bool
comes_after script w None client = true
comes_after script w (Some earlier) client = acts_before script w earlier client

-- the first runnable client after this one
abbrev pub next_act : ScriptData → World → Option ℕ → Option ℕ
next_act script w earlier =
    first_below (length script.clients) (λ client. is_runnable script w client && comes_after script w earlier client) (acts_before script w)

-- the client at place k of the runnable clients after this one
abbrev pub act_after : ScriptData → World → Option ℕ → ℕ → Option ℕ
act_after script w earlier zero = next_act script w earlier
act_after script w earlier (suc k) = option_and_then (λ client. act_after script w (Some client) k) (next_act script w earlier)

-- how many clients are runnable
abbrev pub count_acts : ScriptData → World → ℕ
count_acts script w = count_below (length script.clients) (is_runnable script w)

-- how many moves are enabled
abbrev pub count_turns : ScriptData → World → ℕ
count_turns script w = length (takes script w) + count_acts script w

-- the enabled move at place k, takes before acts
abbrev pub pick : ScriptData → World → ℕ → Option Turn
pick script w k =
    if nat_lt k (length (takes script w))
    then slice_get (takes script w) k
    else option_map (act_turn script) (act_after script w None (k - length (takes script w)))

abbrev pub first_step : (World → List Logged) → ScriptData → World → Option Turn → List Logged
first_step again script w None = []
first_step again script w (Some turn) = logged script w turn.node turn.step ∷ again (after script w turn.node turn.step)

-- at most so many moves from w on, always the first enabled one
abbrev pub first_run_from : ℕ → ScriptData → World → List Logged
first_run_from zero script w = []
first_run_from (suc n) script w = first_step (first_run_from n script) script w (pick script w 0)

-- the run that always makes the first enabled move, up to so many moves
abbrev pub first_run : ScriptData → ℕ → List Logged
first_run script fuel = first_run_from fuel script (start script)

-- the moves of a run, without what they made
abbrev pub turns_of : List Logged → List Turn
turns_of run = map (λ (entry : Logged). record { node = entry.made.stamp.node; step = entry.made.step }) run

-- the move, where it is enabled, and what follows
abbrev pub turn_if : Bool → ScriptData → World → Turn → (World → List Logged) → List Logged
turn_if true script w turn again = logged script w turn.node turn.step ∷ again (after script w turn.node turn.step)
turn_if false script w turn again = []

-- these moves in order, up to the first one that isn't enabled
abbrev pub made_in_turn_from : List Turn → ScriptData → World → List Logged
made_in_turn_from [] script w = []
made_in_turn_from (turn ∷ rest) script w =
    turn_if (is_enabled script w turn.node turn.step) script w turn (made_in_turn_from rest script)

abbrev pub made_in_turn : ScriptData → List Turn → List Logged
made_in_turn script turns = made_in_turn_from turns script (start script)
