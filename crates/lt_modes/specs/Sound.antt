-- What holds of the state that a node keeps for a set, at the start and after each move.
use Rattle.lt_modes.specs.Serving.{is_gone}
use Rattle.std.specs.Prelude.{◌≡◌, ◌≢◌, ◌⊎◌, ◌≤◌, ◌<◌, Bool, true, false, ℕ, List, [], Option, Some, None, IsTrue, IfSome, All, AllPairs, length, slice_index}
use Rattle.lt_modes.specs.declared.mode.Mode.{Mode}
use Rattle.lt_modes.specs.declared.ask.Ask.{Ask}
use Rattle.lt_modes.specs.declared.parts.Row.{Row}
use Rattle.lt_modes.specs.declared.parts.Hoped.{Hoped}
use Rattle.lt_modes.specs.Modes.{Modes, conflicts, bars, count_of, held_modes}
use Rattle.lt_modes.specs.ModeLaws.{IsBelowBy}
use Rattle.lt_modes.specs.State.{SetState, Desk, Parked, ParkedAsk, ParkedTell}
use Rattle.lt_modes.specs.Fits.{Numbers, is_at_home, is_known, are_apart, asks_here}

-- no later than the clock; in the middle of a move, which has set the clock, before it
abbrev pub IsNoLater : Bool → ℕ → ℕ → Type 0
IsNoLater false clock k = k ≤ clock
IsNoLater true clock k = k < clock

-- the charge bars just what the held modes bar; in the middle of a move it bars that, and perhaps more
abbrev pub ChargeKept : Bool → Modes → Modes → Type 0
ChargeKept false held charge = bars held ≡ bars charge
ChargeKept true held charge = IsBelowBy conflicts held charge

-- the row is of a client of node q, and holds some lock
pub record SoundRow (numbers : Numbers) (q : ℕ) (row : Row) : Type 0 where
  pub client : row.client < length numbers.homes
  pub home : slice_index numbers.homes row.client ≡ q
  pub count : 1 ≤ row.count

-- the client holds the mode that the ask gives up, where it gives one up
abbrev pub HoldsGivenUp : List Row → ℕ → Option Mode → Type 0
HoldsGivenUp held client None = Unit {0}
HoldsGivenUp held client (Some mode) = 1 ≤ count_of held client mode

-- an unanswered ask of node q was made by a client of it, in a move of it, and what it gives up is held, unless the ask
-- itself was given up
pub record SoundPending (numbers : Numbers) (q : ℕ) (s : SetState) (ask : Ask) : Type 0 where
  pub home : IsTrue (is_at_home numbers ask)
  pub node : ask.node ≡ q
  pub maker : ask.stamp.node ≡ q
  pub gives_up : is_gone s ask.client ≡ false → HoldsGivenUp s.held ask.client ask.gives_up

-- an ask that is parked or queued at node q is of a client of its node; where that is q, it is unanswered
pub record SoundHere (numbers : Numbers) (q : ℕ) (s : SetState) (ask : Ask) : Type 0 where
  pub home : IsTrue (is_at_home numbers ask)
  pub known : IsTrue (is_known q s ask)

-- without the desk the charge agrees with the held modes; with it nothing is parked,
-- its epoch and its freeze number are no later than the clock, and it has one entry for each node
abbrev pub SoundDesk : Numbers → Bool → Bool → ℕ → SetState → Option Desk → Type 0
SoundDesk numbers moving unfrozen clock s None = ChargeKept moving (held_modes s.held) s.charge
SoundDesk numbers moving unfrozen clock s (Some desk) =
    (s.parked ≡ []) × IsNoLater moving clock desk.epoch × IsNoLater unfrozen clock desk.number × (length desk.entries ≡ numbers.nodes)

-- a hoped link names another node of the script
abbrev pub SoundHoped : Numbers → ℕ → Option Hoped → Type 0
SoundHoped numbers q hoped = IfSome hoped (λ (link : Hoped). (link.node < numbers.nodes) × (link.node ≢ q))

-- a parked tell is of a node of the script
abbrev pub SoundParked : Numbers → Parked → Type 0
SoundParked numbers (ParkedAsk ask) = Unit {0}
SoundParked numbers (ParkedTell tell) = tell.node < numbers.nodes

-- what node q with this clock keeps for a set is sound: between moves, or in the middle of a move of q on the set (`moving`),
-- in which it hasn't frozen yet (`unfrozen`). Its unanswered asks have different stamps, none later than the clock, at each moment
pub record SoundSet (numbers : Numbers) (q : ℕ) (moving unfrozen : Bool) (clock : ℕ) (s : SetState) : Type 0 where
  pub rows : All (SoundRow numbers q) s.held
  pub rows_apart : AllPairs (λ (a b : Row). (a.client ≢ b.client) ⊎ (a.mode ≢ b.mode)) s.held
  pub pending : All (SoundPending numbers q s) s.pending
  pub one_ask : AllPairs (λ (a b : Ask). a.client ≢ b.client) s.pending
  pub stamps_apart : AllPairs (λ (a b : Ask). a.stamp ≢ b.stamp) s.pending
  pub made : All (λ (ask : Ask). ask.stamp.clock ≤ clock) s.pending
  pub here : All (SoundHere numbers q s) (asks_here s)
  pub apart : IsTrue (are_apart (asks_here s))
  pub desk : SoundDesk numbers moving unfrozen clock s s.desk
  pub epoch : IsNoLater moving clock s.firm.epoch
  pub number : IsNoLater unfrozen clock s.number
  pub firm : s.firm.node < numbers.nodes
  pub hoped : SoundHoped numbers q s.hoped
  pub parked : All (SoundParked numbers) s.parked
