-- How the rounds of a crew end its run.
use Rattle.std.specs.Prelude.{◌≡◌, true, false, ℕ, List, Some, slice_get, ◌≢◌, ◌≤◌, ◌<◌, Option, None, length, [], drop}
use Rattle.lt_modes.specs.Script.{ScriptData}
use Rattle.lt_spec.specs.World.{is_at_rest, anyone_waits}
use Rattle.lt_spec.specs.declared.ending.Ending.{Ending}
use Rattle.lt_spec.specs.declared.ending.Ending.TheVariants.{Done, Stuck, Cut}
use Rattle.lt_mail.specs.declared.mail.Mail.{Mail}
use Rattle.lt_mail.specs.Opening.{Opened}
use Rattle.lt_mail.specs.Words.{places_to}
use Rattle.lt_runner.specs.declared.parts.Parts.{Parts}
use Rattle.lt_runner.specs.Kept.{Grew, AsSeen, CouldMove, HasAll}
use Rattle.lt_runner.specs.declared.choice.Choice.TheVariants as choices
use Rattle.lt_runner.specs.Choices.{next_choice}
use Rattle.lt_runner.specs.declared.turning.Turned.{Turned}
use Rattle.lt_runner.specs.declared.turning.Turned.TheVariants.{Moved, Quiet, Full, NoMemory}
use Rattle.lt_threads.specs.Meeting.{EachIs, HaveAll, IsCrew, crew_world, IsCrewCut, IsLeastEnabled, EachShows, RoundsEnd, room_of}
use Rattle.lt_threads.specs.declared.rounds.Ended.{Ended}

-- the crew's world is at rest with nobody waiting, at rest with somebody waiting, or this node is cut
abbrev pub CrewEnds : Ending → ScriptData → List Parts → Type 0
CrewEnds Done script rs =
    (is_at_rest script (crew_world script rs) ≡ true) × (anyone_waits script (crew_world script rs) ≡ false)
CrewEnds Stuck script rs =
    (is_at_rest script (crew_world script rs) ≡ true) × (anyone_waits script (crew_world script rs) ≡ true)
CrewEnds (Cut node) script rs = IsCrewCut node script rs

-- each runner may make so many moves
abbrev pub HasLimit : ℕ → List Parts → Type 0
HasLimit limit rs = (k : ℕ) (p : Parts) → slice_get rs k ≡ Some p → p.limit ≡ limit

-- the runners of a script made all moves that there were, which ended so
pub record MovedOn (script : ScriptData) (end : Ending) (old new : List Parts) : Type 0 where
  pub crew : IsCrew script new
  pub grew : EachIs Grew old new
  pub ends : CrewEnds end script new

-- Turns that the caller makes between rounds.

-- what a turn of a runner came to: a move, none, none for its log is full, or none for want of memory
abbrev pub PushedEnds : Turned → Parts → Parts → Type 0
PushedEnds Moved a b = length a.log.entries < length b.log.entries
PushedEnds Quiet a b = AsSeen a b
PushedEnds Full a b = AsSeen a b × (length b.log.entries ≡ b.limit)
PushedEnds NoMemory a b = AsSeen a b × CouldMove b

-- a runner made a turn; one that shows a move doesn't stay still
pub record OnePushed (pushed : Turned) (a b : Parts) : Type 0 where
  pub grew : Grew a b
  pub ends : PushedEnds pushed a b
  pub bounded : length b.log.entries ≤ b.limit
  pub shown : next_choice a ≢ choices.Nothing → pushed ≢ Quiet

-- the one at this place did, and the others stay
pub record PushedAt (pushed : Turned) (k : ℕ) (old new : List Parts) : Type 0 where
  pub x : Parts
  pub y : Parts
  pub before : slice_get old k ≡ Some x
  pub now : slice_get new k ≡ Some y
  pub one : OnePushed pushed x y
  pub others : (j : ℕ) → j ≢ k → slice_get new j ≡ slice_get old j

-- this is the least node that can make a move, and each runner shows one exactly where its node can make one
pub record CanPush (script : ScriptData) (k : ℕ) (rs : List Parts) : Type 0 where
  pub least : IsLeastEnabled script (crew_world script rs) (Some k)
  pub shows : EachShows script rs

-- a move was made, or the rounds are over
abbrev pub PushedOn : Option Ended → ScriptData → List Parts → List Parts → Type 0
PushedOn None script old new = room_of new < room_of old
PushedOn (Some over) script old new = RoundsEnd over script new

pub record PushEnds (over : Option Ended) (script : ScriptData) (old new : List Parts) : Type 0 where
  pub crew : IsCrew script new
  pub grew : EachIs Grew old new
  pub ends : PushedOn over script old new

-- Runners at the start of a script.

-- the runner of node k, with its mail of these, which has made no move
pub record IsFirstRunner (script : ScriptData) (limit k : ℕ) (all : List Mail) (p : Parts) : Type 0 where
  pub script_is : p.node.script ≡ script
  pub me : p.node.me ≡ k
  pub limit_is : p.limit ≡ limit
  pub log : p.log.entries ≡ []
  pub has_all : HasAll p
  pub mail : slice_get all k ≡ Some p.mail

-- the first k runners stand, and these mails are left
pub record Starting (script : ScriptData) (capacity limit k : ℕ) (left : List Mail) (rs : List Parts) : Type 0 where
  pub all : List Mail
  pub opened : Opened script.nodes capacity all
  pub left_is : left ≡ drop k all
  pub count : length rs ≡ k
  pub each : (j : ℕ) (p : Parts) → slice_get rs j ≡ Some p → IsFirstRunner script limit j all p

-- the runners of a script of which none has made a move; each may make so many, and its ring to each node has so many places
pub record IsFirstCrew (script : ScriptData) (capacity limit : ℕ) (rs : List Parts) : Type 0 where
  pub crew : IsCrew script rs
  pub scripts : (k : ℕ) (p : Parts) → slice_get rs k ≡ Some p → p.node.script ≡ script
  pub logs : (k : ℕ) (p : Parts) → slice_get rs k ≡ Some p → p.log.entries ≡ []
  pub have_all : HaveAll rs
  pub limits : (k : ℕ) (p : Parts) → slice_get rs k ≡ Some p → p.limit ≡ limit
  pub places : (k other : ℕ) (p : Parts) → slice_get rs k ≡ Some p → other < script.nodes → places_to p.mail other ≡ capacity
