-- The logs of all nodes, and the one list of their entries in order of stamps.
use Rattle.std.specs.Prelude.{◌≡◌, ℕ, zero, suc, ◌≤◌, List, [], ◌∷◌, ◌++◌, drop, ◌≢◌, Option, Some, None, length, slice_get, ◌<◌, IsTrue, filter_map}
use Rattle.std.specs.List.{AllByRecursion}
use Rattle.lt_modes.specs.declared.moves.Step.{Step}
use Rattle.lt_modes.specs.declared.moves.Step.TheVariants.{Act, Take}
use Rattle.lt_modes.specs.Script.{ScriptData}
use Rattle.lt_modes.specs.State.{Letter}
use Rattle.lt_lists.specs.Below.{put}
use Rattle.lt_spec.specs.World.{Logged, start, take_front, token_to}
use Rattle.lt_spec.specs.NodeMove.{NodeState, NodeMade, node_act}
use Rattle.lt_spec.specs.Plays.{Plays, Cause, can_make_move, made_of, logged_of, used_by, letters_for}
use Rattle.lt_merge.specs.Merging.{both_merged, AreRising}

-- of each node its log and its last state; of each two nodes the letters of p that q used, those that p sent to q,
-- and those that are left of them
pub record Logs : Type 0 where
  pub log : ℕ → List Logged
  pub last : ℕ → NodeState
  pub used : ℕ → ℕ → List Letter
  pub sent : ℕ → ℕ → List Letter
  pub rest : ℕ → ℕ → List Letter

-- each log is a play of its node from the start; of the letters that p sent to q the first ones were used by q, in
-- order; and only nodes of the script have entries
pub record ArePlays (script : ScriptData) (l : Logs) : Type 0 where
  pub plays : (x : ℕ) → Plays script x ((start script).node x) (l.log x) (l.used x) (l.sent x) (l.last x)
  pub letters : (p q : ℕ) → l.sent p q ≡ l.used q p ++ l.rest p q
  pub beyond : (x : ℕ) → script.nodes ≤ x → l.log x ≡ []

-- the logs of the first n nodes, merged
abbrev pub merged : ℕ → (ℕ → List Logged) → List Logged
merged zero log = []
merged (suc n) log = both_merged (log n) (merged n log)

-- what node x makes of the step, where these letters come to it
abbrev pub step_made : ScriptData → ℕ → NodeState → Step → (ℕ → List Letter) → NodeMade
step_made script x n (Act client) used = node_act script x client n
step_made script x n (Take p) used = take_front x n (used p)

-- the letters that are left after the step
abbrev pub step_left : Step → (ℕ → List Letter) → ℕ → List Letter
step_left (Act client) used = used
step_left (Take p) used = put used p (drop 1 (used p))

-- the nodes to which the token of set s goes, as the nodes in these states make these moves in order, each with the
-- letters that it uses
abbrev pub token_goes : ScriptData → ℕ → (ℕ → NodeState) → (ℕ → ℕ → List Letter) → List Logged → List ℕ
token_goes script s node used [] = []
token_goes script s node used (entry ∷ rest) =
    filter_map (token_to s) (step_made script entry.made.stamp.node (node entry.made.stamp.node) entry.made.step (used entry.made.stamp.node)).posts
    ++ token_goes script s
    (put node entry.made.stamp.node (step_made script entry.made.stamp.node (node entry.made.stamp.node) entry.made.step (used entry.made.stamp.node)).node)
    (put used entry.made.stamp.node (step_left entry.made.step (used entry.made.stamp.node))) rest

-- The plays of a list of nodes, in order of their numbers, as the logs of a script.

-- what one node made: its log, its last state, and the letters that it used of each node and sent to each node
pub record Part : Type 0 where
  pub log : List Logged
  pub last : NodeState
  pub used : ℕ → List Letter
  pub sent : ℕ → List Letter

-- a node that made nothing
abbrev pub no_part : ScriptData → ℕ → Part
no_part script x = record { log = []; last = (start script).node x; used = λ a. []; sent = λ b. [] }

abbrev pub part_or : ScriptData → ℕ → Option Part → Part
part_or script x (Some part) = part
part_or script x None = no_part script x

abbrev pub part_at : ScriptData → List Part → ℕ → Part
part_at script parts x = part_or script x (slice_get parts x)

-- of the letters that were sent those are left that stand after the ones that were used
abbrev pub logs_of : ScriptData → List Part → Logs
logs_of script parts = record {
  log = λ x. (part_at script parts x).log;
  last = λ x. (part_at script parts x).last;
  used = λ q. (part_at script parts q).used;
  sent = λ p. (part_at script parts p).sent;
  rest = λ p q. drop (length ((part_at script parts q).used p)) ((part_at script parts p).sent q);
}

-- one play for each node of the script, and each node used the first ones of the letters that each other one sent to it
pub record Joined (script : ScriptData) (parts : List Part) : Type 0 where
  pub count : length parts ≡ script.nodes
  pub plays : (x : ℕ) (part : Part) → slice_get parts x ≡ Some part
      → Plays script x ((start script).node x) part.log part.used part.sent part.last
  pub letters : (p q : ℕ) (a b : Part) → slice_get parts p ≡ Some a → slice_get parts q ≡ Some b → p ≢ q
      → (rest : List Letter) × (a.sent q ≡ b.used p ++ rest)

-- such plays are plays of the script
abbrev pub JoinedArePlays : Type 0
JoinedArePlays = (script : ScriptData) (parts : List Part) → Joined script parts → ArePlays script (logs_of script parts)

-- The laws of plays, as statements.

-- a move that the node can make is a play of one entry
abbrev pub OneMovePlays : Type 0
OneMovePlays = (script : ScriptData) (x : ℕ) (n : NodeState) (cause : Cause) → IsTrue (can_make_move script x n cause)
    → Plays script x n (logged_of script x n cause ∷ []) (used_by cause) (λ b. letters_for b (made_of script x n cause).posts) (made_of script x n cause).node

-- a play, and one that begins where it ended, are a play of both logs
abbrev pub PlaysJoin : Type 0
PlaysJoin = (script : ScriptData) (x : ℕ) (first second : List Logged) (n mid last : NodeState) (used sent used_after sent_after used_all sent_all : ℕ → List Letter)
    → Plays script x n first used sent mid → Plays script x mid second used_after sent_after last
    → ((a : ℕ) → used_all a ≡ used a ++ used_after a) → ((b : ℕ) → sent_all b ≡ sent b ++ sent_after b)
    → Plays script x n (first ++ second) used_all sent_all last

-- a play with one move more is a play: so a node's log grows
abbrev pub PlaysGrow : Type 0
PlaysGrow = (script : ScriptData) (x : ℕ) (log : List Logged) (n mid : NodeState) (cause : Cause) (used sent used_all sent_all : ℕ → List Letter)
    → Plays script x n log used sent mid → IsTrue (can_make_move script x mid cause)
    → ((a : ℕ) → used_all a ≡ used a ++ used_by cause a) → ((b : ℕ) → sent_all b ≡ sent b ++ letters_for b (made_of script x mid cause).posts)
    → Plays script x n (log ++ logged_of script x mid cause ∷ []) used_all sent_all (made_of script x mid cause).node

-- in a play stamps rise, are of the node, are later than the clock at the beginning and no later than that at the end
abbrev pub PlaysRise : Type 0
PlaysRise = (script : ScriptData) (x : ℕ) (log : List Logged) (n last : NodeState) (used sent : ℕ → List Letter) → Plays script x n log used sent last
    → AreRising log × AllByRecursion (λ (entry : Logged). (entry.made.stamp.node ≡ x) × (n.clock < entry.made.stamp.clock) × (entry.made.stamp.clock ≤ last.clock)) log

-- the letters that are sent in a play are the node's, later than the clock at the beginning and no later than that at the end
abbrev pub PlaysSendStamped : Type 0
PlaysSendStamped = (script : ScriptData) (x : ℕ) (log : List Logged) (n last : NodeState) (used sent : ℕ → List Letter) → Plays script x n log used sent last
    → (b : ℕ) → AllByRecursion (λ (letter : Letter). (letter.stamp.node ≡ x) × (n.clock < letter.stamp.clock) × (letter.stamp.clock ≤ last.clock)) (sent b)

-- in a play the node uses no letter of itself
abbrev pub TakesNothingOfItself : Type 0
TakesNothingOfItself = (script : ScriptData) (x : ℕ) (log : List Logged) (n last : NodeState) (used sent : ℕ → List Letter) → Plays script x n log used sent last
    → used x ≡ []

-- nor of a node that the script doesn't have
abbrev pub TakesNothingFromBeyond : Type 0
TakesNothingFromBeyond = (script : ScriptData) (x : ℕ) (log : List Logged) (n last : NodeState) (used sent : ℕ → List Letter)
    → Plays script x n log used sent last → (a : ℕ) → script.nodes ≤ a → used a ≡ []
