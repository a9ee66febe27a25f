-- What one node does by itself: the entries that it logs, the letters that it uses and those that it sends.
use Rattle.std.specs.Prelude.{Bool, ◌&&◌, ◌==◌, nat_lt, ℕ, ◌+◌, List, [], ◌∷◌, if◌then◌else◌, length, ◌≡◌, not, max, ◌++◌, IsTrue, filter_map}
use Rattle.lt_modes.specs.declared.moves.Step.{Step}
use Rattle.lt_modes.specs.declared.moves.Step.TheVariants.{Act, Take}
use Rattle.lt_modes.specs.Script.{ScriptData}
use Rattle.lt_modes.specs.declared.stamp.Stamp.{Stamp}
use Rattle.lt_modes.specs.State.{Letter, Post}
use Rattle.lt_spec.specs.World.{Logged, letter_for}
use Rattle.lt_spec.specs.NodeMove.{home, NodeState, NodeMade, has_command, node_act, node_take, is_free_at}

-- why a node makes a move: one of its clients has a command, or a letter came from a node
pub data Cause : Type 0 where
  OfClient : ℕ → Cause
  OfLetter : ℕ → Letter → Cause

-- the client is one of node x; it doesn't wait, and has a command left
abbrev pub can_act : ScriptData → ℕ → NodeState → ℕ → Bool
can_act script x n client =
    nat_lt client (length script.clients)
    && (home script client == x && (is_free_at script n client && has_command script n client))

-- node x can make the move; a letter comes from another node of the script
abbrev pub can_make_move : ScriptData → ℕ → NodeState → Cause → Bool
can_make_move script x n (OfClient client) = can_act script x n client
can_make_move script x n (OfLetter p letter) = nat_lt p script.nodes && (nat_lt x script.nodes && not (p == x))

-- what node x makes in the move
abbrev pub made_of : ScriptData → ℕ → NodeState → Cause → NodeMade
made_of script x n (OfClient client) = node_act script x client n
made_of script x n (OfLetter p letter) = node_take x letter n

-- the clock of the move: later than the node's, and than that of the letter
abbrev pub clock_of : NodeState → Cause → ℕ
clock_of n (OfClient client) = n.clock + 1
clock_of n (OfLetter p letter) = max n.clock letter.stamp.clock + 1

-- the stamp of the move
abbrev pub stamp_of : ℕ → NodeState → Cause → Stamp
stamp_of x n cause = record { clock = clock_of n cause; node = x }

abbrev pub cause_step : Cause → Step
cause_step (OfClient client) = Act client
cause_step (OfLetter p letter) = Take p

-- the entry of the move in the log
abbrev pub logged_of : ScriptData → ℕ → NodeState → Cause → Logged
logged_of script x n cause = record {
  made = record { stamp = stamp_of x n cause; step = cause_step cause };
  events = (made_of script x n cause).events;
}

-- the letters of node a that the move uses
abbrev pub used_by : Cause → ℕ → List Letter
used_by (OfClient client) a = []
used_by (OfLetter p letter) a = if a == p then letter ∷ [] else []

-- those of the letters that go to node b, in order
abbrev pub letters_for : ℕ → List Post → List Letter
letters_for b posts = filter_map (letter_for b) posts

-- node x, from the state n, first makes the move of this entry, and then goes on
pub record BeginsPlay (script : ScriptData) (x : ℕ) (n : NodeState) (entry : Logged) (used sent : ℕ → List Letter)
    (Next : NodeState → (ℕ → List Letter) → (ℕ → List Letter) → Type 0) : Type 0 where
  pub cause : Cause
  pub can : IsTrue (can_make_move script x n cause)
  pub logged : entry ≡ logged_of script x n cause
  pub left : ℕ → List Letter
  pub later : ℕ → List Letter
  pub uses : (a : ℕ) → used a ≡ used_by cause a ++ left a
  pub sends : (b : ℕ) → sent b ≡ letters_for b (made_of script x n cause).posts ++ later b
  pub goes_on : Next (made_of script x n cause).node left later

-- node x, from the state n, makes these entries and is then in the last state: it uses exactly these letters of each
-- node, and sends exactly these to each node
abbrev pub Plays : ScriptData → ℕ → NodeState → List Logged → (ℕ → List Letter) → (ℕ → List Letter) → NodeState → Type 0
Plays script x n [] used sent last = ((a : ℕ) → used a ≡ []) × ((b : ℕ) → sent b ≡ []) × (n ≡ last)
Plays script x n (entry ∷ rest) used sent last =
    BeginsPlay script x n entry used sent (λ state left later. Plays script x state rest left later last)
