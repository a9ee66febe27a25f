-- What C is told of locks and waits, in literals: what follows from each code of a call.
use Rattle.std.specs.Prelude.{◌≡◌, ◌<◌, ◌≤◌, ◌⊎◌, ℕ, IsTrue, IsFalse, Option, Some, None, length}
use Rattle.lt_modes.specs.declared.mode.Mode.{Mode}
use Rattle.lt_modes.specs.declared.mode.Mode.TheVariants as modes
use Rattle.lt_node.specs.NodeData.{NodeData, state_of}
use Rattle.lt_view.specs.View.{count_held, holds_in, wait_of, queues_before}
use Rattle.lt_view.specs.ViewLaws.{IsFirstHeld}
use Rattle.lt_live_c.specs.declared.content.Content.{Content}
use Rattle.lt_live_c.specs.declared.content.Content.TheVariants as contents
use Rattle.lt_live_c.specs.Viewing.{node_behind, TellsHeld, locks_seen, number_of_mode, TellsAsked, tells_behind}

-- on what has no node, and with {0}, the code says so
abbrev pub HasNoNode : Option Content → Type 0
HasNoNode content = node_behind content ≡ None

-- this is so of each call with this code that asks for the first set from 3 on in which client 2 holds a lock, by the
-- node, and by the number before and after it
abbrev pub AfterHeld : ℕ → (NodeData → ℕ → ℕ → Type 0) → Type 0
AfterHeld code Told = (node : NodeData) (was set : ℕ) → TellsHeld (Some node) 2 3 code was set → Told node was set

pub record HeldTold : Type 0 where
  pub found : AfterHeld 0 (λ node was set. IsFirstHeld node.script (state_of node) 2 3 set)
  pub none : AfterHeld 1 (λ node was set.
      (k : ℕ) → 3 ≤ k → k < length node.script.sets → IsFalse (holds_in (state_of node) 2 k))
  pub stays : AfterHeld 1 (λ node was set. set ≡ was)
  pub only : (code : ℕ) → AfterHeld code (λ node was set. (code ≡ 0) ⊎ (code ≡ 1))
  pub wrong : (content : Option Content) → HasNoNode content → (code was set : ℕ)
      → TellsHeld (node_behind content) 2 3 code was set → (code ≡ 2) × (set ≡ was)

-- how many locks of a mode client 2 holds in set 7
pub record LocksTold : Type 0 where
  pub write : (node : NodeData)
      → locks_seen (Some node) 2 7 (Some modes.Write) ≡ count_held node.script (state_of node) 2 7 modes.Write
  pub read : (node : NodeData)
      → locks_seen (Some node) 2 7 (Some modes.Read) ≡ count_held node.script (state_of node) 2 7 modes.Read
  pub no_mode : (node : NodeData) → locks_seen (Some node) 2 7 None ≡ 0
  pub wrong : (content : Option Content) → HasNoNode content
      → locks_seen (node_behind content) 2 7 (Some modes.Write) ≡ 0

-- this is so of each call with this code that asks for what client 2 waits for
abbrev pub AfterAsked : ℕ → (NodeData → ℕ → ℕ → ℕ → ℕ → Type 0) → Type 0
AfterAsked code Told = (node : NodeData) (was_set was_mode set mode : ℕ)
    → TellsAsked (Some node) 2 code was_set was_mode set mode → Told node was_set was_mode set mode

-- the client waits for this mode in the set, and that is the mode's number
pub record IsWaitFor (node : NodeData) (set number : ℕ) : Type 0 where
  pub mode : Mode
  pub wait : wait_of node.script (state_of node) 2 ≡ Some (set, mode)
  pub is_number : number ≡ number_of_mode mode

pub record AskedTold : Type 0 where
  pub waits : AfterAsked 0 (λ node was_set was_mode set mode. IsWaitFor node set mode)
  pub none : AfterAsked 1 (λ node was_set was_mode set mode. wait_of node.script (state_of node) 2 ≡ None)
  pub stays : AfterAsked 1 (λ node was_set was_mode set mode. (set ≡ was_set) × (mode ≡ was_mode))
  pub only : (code : ℕ) → AfterAsked code (λ node was_set was_mode set mode. (code ≡ 0) ⊎ (code ≡ 1))
  pub wrong : (content : Option Content) → HasNoNode content → (code was_set was_mode set mode : ℕ)
      → TellsAsked (node_behind content) 2 code was_set was_mode set mode
      → (code ≡ 2) × (set ≡ was_set) × (mode ≡ was_mode)
  pub intention_read : number_of_mode modes.IntentionRead ≡ 0
  pub reads : number_of_mode modes.Read ≡ 1
  pub upgrade : number_of_mode modes.Upgrade ≡ 2
  pub intention_write : number_of_mode modes.IntentionWrite ≡ 3
  pub read_intention_write : number_of_mode modes.ReadIntentionWrite ≡ 4
  pub writes : number_of_mode modes.Write ≡ 5

-- whether client 2 stands behind client 3 in the queue of set 7
pub record BehindTold : Type 0 where
  pub stands : (node : NodeData) → tells_behind (Some node) 7 2 3 ≡ 0
      → IsTrue (queues_before node.script (state_of node) 7 3 2)
  pub not : (node : NodeData) → tells_behind (Some node) 7 2 3 ≡ 1
      → IsFalse (queues_before node.script (state_of node) 7 3 2)
  pub wrong : (content : Option Content) → HasNoNode content → tells_behind (node_behind content) 7 2 3 ≡ 2
