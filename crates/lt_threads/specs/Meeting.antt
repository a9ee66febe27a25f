-- The runners of a script, and the run that they have made together.
use Rattle.std.specs.Prelude.{◌≡◌, ◌≢◌, ◌≤◌, ◌-◌, ℕ, List, Some, length, map, take, slice_get, ◌<◌, true, false, Option, None, sum_by, ◌⊎◌, filter, [], ◌∷◌, ◌++◌}
use Rattle.lt_modes.specs.Script.{ScriptData}
use Rattle.lt_modes.specs.State.{Letter}
use Rattle.lt_modes.specs.declared.command.Command.{Command}
use Rattle.lt_lists.specs.Below.{sum_below}
use Rattle.lt_spec.specs.Script.{IsScript}
use Rattle.lt_spec.specs.World.{Logged, World, world_after, is_at_rest, can_move, is_of_node, IsRun}
use Rattle.lt_spec.specs.declared.moves.TheConstants.{MAX_MOVES_OF_SERVICE}
use Rattle.lt_spec.specs.NodeMove.{SameAt, commands_of, with_commands, AreAt}
use Rattle.lt_spec.specs.declared.limits.TheConstants.{MAX_COMMANDS}
use Rattle.lt_merge.specs.Merging.{RunData, AreLogs, Merges, AreRising}
use Rattle.lt_law_plays.specs.Merged.{merged, Part, logs_of}
use Rattle.lt_node.specs.NodeData.{state_of}
use Rattle.lt_mail.specs.Words.{out_at, in_at, sent_to, taken_from, IsOpenLink, Both, Alike}
use Rattle.lt_runner.specs.declared.parts.Parts.{Parts}
use Rattle.lt_runner.specs.Kept.{in_hand, RunnerInvariant, CouldMove, is_move, AsSeen, HasMet, HasFetched, HasAll}
use Rattle.lt_runner.specs.Choices.{next_choice}
use Rattle.lt_threads.specs.declared.rounds.Ended.{Ended}
use Rattle.lt_threads.specs.declared.rounds.Ended.TheVariants.{Rest, Cut, NoMemory}

-- the letters of the node that were used: those that were taken, but the one in hand
abbrev pub used_of : Parts → ℕ → List Letter
used_of p node = take (length (taken_from p.mail node) - length (in_hand node p.hand)) (taken_from p.mail node)

-- what the runner's node made
abbrev pub part_of : Parts → Part
part_of p = record { log = p.log.entries; last = state_of p.node; used = used_of p; sent = sent_to p.mail }

-- the moves of all runners, in order of their stamps
abbrev pub crew_run : ScriptData → List Parts → List Logged
crew_run script rs = merged script.nodes (logs_of script (map part_of rs)).log

-- the world after these moves
abbrev pub crew_world : ScriptData → List Parts → World
crew_world script rs = world_after script (crew_run script rs)

-- the runner of node k, whose own script is this one but for commands of the clients of other nodes; it makes no more moves than
-- a node of a service may
pub record InCrew (script : ScriptData) (k : ℕ) (p : Parts) : Type 0 where
  pub script_is : SameAt k p.node.script script
  pub me : p.node.me ≡ k
  pub limit : p.limit ≤ MAX_MOVES_OF_SERVICE

-- the runners of all nodes of a script, in order, with both ends of each ring among them
pub record IsCrew (script : ScriptData) (rs : List Parts) : Type 0 where
  pub is_script : IsScript script
  pub count : length rs ≡ script.nodes
  pub each : (k : ℕ) (p : Parts) → slice_get rs k ≡ Some p → InCrew script k p
  pub links : (a b : ℕ) (x y : Parts) → slice_get rs a ≡ Some x → slice_get rs b ≡ Some y → a ≢ b → Both IsOpenLink (out_at x.mail b) (in_at y.mail a)

-- each keeps what a runner keeps
abbrev pub AreKept : List Parts → Type 0
AreKept rs = (k : ℕ) (p : Parts) → slice_get rs k ≡ Some p → RunnerInvariant p

-- some runner's log has a place left, and it shows a move: only then memory is told to be wanting
abbrev pub SomeCouldMove : List Parts → Type 0
SomeCouldMove rs = (k : ℕ) × (p : Parts) × (slice_get rs k ≡ Some p) × CouldMove p

-- the runners at the same places go together
abbrev pub EachIs : (Parts → Parts → Type 0) → List Parts → List Parts → Type 0
EachIs R old new = (k : ℕ) → Alike R (slice_get old k) (slice_get new k)

-- The node that can make a move.

-- the least node that can make a move in this world, or none, at rest
abbrev pub IsLeastEnabled : ScriptData → World → Option ℕ → Type 0
IsLeastEnabled script w None = is_at_rest script w ≡ true
IsLeastEnabled script w (Some k) =
    (k < script.nodes) × (can_move script w k ≡ true) × ((j : ℕ) → j < k → can_move script w j ≡ false)

-- each runner shows a move exactly where its node can make one in the world of the crew
abbrev pub EachShows : ScriptData → List Parts → Type 0
EachShows script rs = (k : ℕ) (p : Parts) → slice_get rs k ≡ Some p → is_move (next_choice p) ≡ can_move script (crew_world script rs) k

-- none of the first n runners shows a move
abbrev pub NoneShows : ℕ → List Parts → Type 0
NoneShows n rs = (k : ℕ) (p : Parts) → k < n → slice_get rs k ≡ Some p → is_move (next_choice p) ≡ false

-- the runner at this place shows a move
pub record Shows (k : ℕ) (rs : List Parts) : Type 0 where
  pub p : Parts
  pub here : slice_get rs k ≡ Some p
  pub shows : is_move (next_choice p) ≡ true

-- the first runner that shows a move
abbrev pub IsFirstMove : List Parts → Option ℕ → Type 0
IsFirstMove rs None = (k : ℕ) (p : Parts) → slice_get rs k ≡ Some p → is_move (next_choice p) ≡ false
IsFirstMove rs (Some k) = Shows k rs × NoneShows k rs

-- Rounds: all runners work at once, and where a move is enabled then the caller makes one itself.

-- node k is the least that can make a move, and each that can make one has made as many as it may
pub record IsCrewCut (k : ℕ) (script : ScriptData) (rs : List Parts) : Type 0 where
  pub below : k < script.nodes
  pub moves : can_move script (crew_world script rs) k ≡ true
  pub least : (j : ℕ) → j < k → can_move script (crew_world script rs) j ≡ false
  pub full : (j : ℕ) (p : Parts) → slice_get rs j ≡ Some p → can_move script (crew_world script rs) j ≡ true → length p.log.entries ≡ p.limit

-- the runners are at rest, or the run is cut, or memory was wanting for a move
abbrev pub RoundsEnd : Ended → ScriptData → List Parts → Type 0
RoundsEnd Rest script rs = is_at_rest script (crew_world script rs) ≡ true
RoundsEnd (Cut k) script rs = IsCrewCut k script rs
RoundsEnd NoMemory script rs = SomeCouldMove rs

-- how many moves more they may make together
abbrev pub room_of : List Parts → ℕ
room_of rs = sum_by (λ (p : Parts). p.limit - length p.log.entries) rs

-- Runners of which each two have looked at the rings between them.

-- so it is of each two runners that pass
abbrev pub AreMet : (ℕ → ℕ → Type 0) → List Parts → Type 0
AreMet pass rs = (a b : ℕ) (x y : Parts) → pass a b → a ≢ b → slice_get rs a ≡ Some x → slice_get rs b ≡ Some y → HasMet a b x y

-- any two
abbrev pub AnyTwo : ℕ → ℕ → Type 0
AnyTwo a b = Unit {0}

-- two of the first n, or the one after them and one of the first m
abbrev pub AmongFirst : ℕ → ℕ → ℕ → ℕ → Type 0
AmongFirst n m a b = ((a < n) × (b < n)) ⊎ (((a ≡ n) × (b < m)) ⊎ ((a < m) × (b ≡ n)))

-- the first n runners have a letter in hand where one is known to come
abbrev pub HaveFetched : ℕ → List Parts → Type 0
HaveFetched n rs = (k : ℕ) (p : Parts) → k < n → slice_get rs k ≡ Some p → HasFetched p

-- each runner is that of its place, and each two have the ends of the rings between them
pub record RunnersLinked (rs : List Parts) : Type 0 where
  pub me : (k : ℕ) (p : Parts) → slice_get rs k ≡ Some p → p.node.me ≡ k
  pub links : (a b : ℕ) (x y : Parts) → slice_get rs a ≡ Some x → slice_get rs b ≡ Some y → a ≢ b → Both IsOpenLink (out_at x.mail b) (in_at y.mail a)

-- nothing happened but that letters may have gone to the ring to this node, and that more of its letters may be known
pub record LooksAtNode (other : ℕ) (a b : Parts) : Type 0 where
  pub seen : AsSeen a b
  pub hand : b.hand ≡ a.hand
  pub outs : (node : ℕ) → node ≢ other → out_at b.mail node ≡ out_at a.mail node
  pub ins : (node : ℕ) → node ≢ other → in_at b.mail node ≡ in_at a.mail node

-- two runners looked at the rings between them
pub record BothLook (m n : ℕ) (x y u v : Parts) : Type 0 where
  pub first : LooksAtNode n x u
  pub second : LooksAtNode m y v
  pub there : HasMet m n u v
  pub back : HasMet n m v u

-- so did those at these two places, and the others stay
pub record PairMeets (m n : ℕ) (old new : List Parts) : Type 0 where
  pub x : Parts
  pub y : Parts
  pub u : Parts
  pub v : Parts
  pub old_first : slice_get old m ≡ Some x
  pub old_second : slice_get old n ≡ Some y
  pub new_first : slice_get new m ≡ Some u
  pub new_second : slice_get new n ≡ Some v
  pub look : BothLook m n x y u v
  pub others : (k : ℕ) → k ≢ m → k ≢ n → slice_get new k ≡ slice_get old k

-- of the runners each two of the first n looked at the rings between them, and so did the one after these and the first m
pub record Meeting (n m : ℕ) (old new : List Parts) : Type 0 where
  pub linked : RunnersLinked new
  pub seen : EachIs AsSeen old new
  pub met : AreMet (AmongFirst n m) new

-- the first n runners have looked for a letter that is known to come, and all have met
pub record Fetching (n : ℕ) (old new : List Parts) : Type 0 where
  pub seen : EachIs AsSeen old new
  pub met : AreMet AnyTwo new
  pub fetched : HaveFetched n new

-- The logs of a crew.

abbrev pub run_entries : RunData → List Logged
run_entries log = log.entries

abbrev pub log_of : Parts → List Logged
log_of p = p.log.entries

-- none of them has forgotten moves or commands
abbrev pub HaveAll : List Parts → Type 0
HaveAll rs = (k : ℕ) (p : Parts) → slice_get rs k ≡ Some p → HasAll p

-- they can be merged, and what is merged of them is a run of the script: the one that the runners have made
pub record AreCrewLogs (script : ScriptData) (rs : List Parts) (logs : List RunData) : Type 0 where
  pub are_logs : AreLogs logs
  pub is_run : (run : List Logged) → Merges logs run → IsRun script run
  pub is_crew_run : (run : List Logged) → Merges logs run → run ≡ crew_run script rs
  -- in it each node's moves are those of its runner
  pub moves : (run : List Logged) → Merges logs run → (k : ℕ) (p : Parts) → slice_get rs k ≡ Some p → filter (is_of_node k) run ≡ p.log.entries
  pub within : (k : ℕ) (p : Parts) → slice_get rs k ≡ Some p → length p.log.entries ≤ p.limit

-- Runners of one script that had no commands at first, each of which appended commands of its own node's clients.

-- the runner of node k, whose own script is this one but for the commands, which are all of clients of its node
pub record InShares (script : ScriptData) (k : ℕ) (p : Parts) : Type 0 where
  pub script_is : p.node.script ≡ with_commands script p.node.script.commands
  pub own : AreAt script k p.node.script.commands
  pub me : p.node.me ≡ k
  pub limit : p.limit ≤ MAX_MOVES_OF_SERVICE

-- the runners of all nodes, in order, with both ends of each ring among them
pub record AreShares (script : ScriptData) (rs : List Parts) : Type 0 where
  pub some : 0 < script.nodes
  pub count : length rs ≡ script.nodes
  pub each : (k : ℕ) (p : Parts) → slice_get rs k ≡ Some p → InShares script k p
  pub links : (a b : ℕ) (x y : Parts) → slice_get rs a ≡ Some x → slice_get rs b ≡ Some y → a ≢ b → Both IsOpenLink (out_at x.mail b) (in_at y.mail a)

-- they are so of some script
abbrev pub ShareScript : List Parts → Type 0
ShareScript rs = (script : ScriptData) × AreShares script rs

-- the commands of all runners, node by node
abbrev pub commands_in : List Parts → List (ℕ × Command)
commands_in [] = []
commands_in (p ∷ rs) = p.node.script.commands ++ commands_in rs

-- how many commands the clients have together
abbrev pub command_count : ScriptData → ℕ
command_count script = sum_below (length script.clients) (λ client. length (commands_of script client))

-- the one script of which the runners are a crew, with the commands of all, which are no more than those of a text
pub record IsJoined (rs : List Parts) (script : ScriptData) : Type 0 where
  pub crew : IsCrew script rs
  pub commands : script.commands ≡ commands_in rs
  pub few_commands : length script.commands ≤ MAX_COMMANDS

-- the clients have more commands together than the text of a script may have
abbrev pub AreTooMany : List Parts → Type 0
AreTooMany rs = (script : ScriptData) → AreShares script rs → MAX_COMMANDS < command_count (with_commands script (commands_in rs))

-- what each runner has is a script
abbrev pub AreScripts : List Parts → Type 0
AreScripts rs = (k : ℕ) (p : Parts) → slice_get rs k ≡ Some p → IsScript p.node.script

-- the run of the joined script that the runners have made, with its moves in the order of their stamps; each node's are those of its
-- runner
pub record IsSharedRun (rs : List Parts) (script : ScriptData) (run : List Logged) : Type 0 where
  pub joined : IsJoined rs script
  pub is_run : IsRun script run
  pub rising : AreRising run
  pub is_crew_run : run ≡ crew_run script rs
  pub moves : (k : ℕ) (p : Parts) → slice_get rs k ≡ Some p → filter (is_of_node k) run ≡ p.log.entries
