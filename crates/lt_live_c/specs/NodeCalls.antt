-- What the calls of C on a node in a process of its own do with what a handle stands for.
use Rattle.std.specs.Prelude.{◌≡◌, ◌⊎◌, ℕ, List, Option, Some, None, ⊤}
use Rattle.lt_script.specs.Printing.{print_of}
use Rattle.lt_journal.specs.RunLines.{text_of}
use Rattle.lt_runner.specs.Kept.{HasAll}
use Rattle.lt_apart.specs.Remote.{me}
use Rattle.lt_live_c.specs.declared.code.TheConstants.{WRONG_HANDLE, NO_MEMORY, BAD_ARGUMENT, FORGOTTEN}
use Rattle.lt_live_c.specs.declared.content.Content.{Content}
use Rattle.lt_live_c.specs.declared.content.Content.TheVariants as contents
use Rattle.lt_live_c.specs.declared.journal.Journal.{Journal}
use Rattle.lt_live_c.specs.OwnNode.{OwnNode}
use Rattle.lt_live_c.specs.Nodes.{IsPeer, IsOpenedNode}
use Rattle.lt_live_c.specs.Taking.{BothStand, AtHandle, WrongOr}

abbrev pub HandleOpenedNode : List ℕ → ℕ → List ℕ → ℕ → ℕ → ℕ → Option Content → Type 0
HandleOpenedNode text node key start limit places (Some (contents.Node n)) =
    IsOpenedNode text node key start limit places n
HandleOpenedNode text node key start limit places other = ⊥

-- this is done with the node, where the number is that of another node of its script; else nothing is, and the code
-- says so
abbrev pub WithPeer : ℕ → ℕ → (OwnNode → OwnNode → Type 0) → OwnNode → OwnNode → Type 0
WithPeer code peer R a b = (IsPeer a peer × R a b) ⊎ ((code ≡ BAD_ARGUMENT) × ((IsPeer a peer → ⊥) × (b ≡ a)))

-- what a call on a node does: with anything else it does nothing, and the code says so
abbrev pub OnNode : ℕ → ℕ → (OwnNode → OwnNode → Type 0) → Content → Content → Type 0
OnNode code peer R (contents.Node n) (contents.Node m) = WithPeer code peer R n m
OnNode code peer R (contents.Node n) other = ⊥
OnNode code peer R other b = (code ≡ WRONG_HANDLE) × (b ≡ other)

abbrev pub AtNode : ℕ → ℕ → (OwnNode → OwnNode → Type 0) → Option Content → Option Content → Type 0
AtNode code peer R a b = AtHandle code (OnNode code peer R) a b

-- the texts of the script with the commands of the node's clients, and of its moves with the line of a run that was
-- cut there; no line says what is held or who waits
pub record IsJournalOfOwnNode (n : OwnNode) (journal : Journal) : Type 0 where
  pub script : journal.script.items ≡ print_of n.remote.station.runner.node.script
  pub text : journal.text.items ≡ text_of n.remote.station.runner.node.script n.remote.station.runner.log.entries
      (Some (me n.remote))
  pub held : journal.held ≡ 0
  pub waiting : journal.waiting ≡ 0

abbrev pub NodeJournalIsOf : Content → Content → Type 0
NodeJournalIsOf (contents.Node n) (contents.Journal journal) = IsJournalOfOwnNode n journal
NodeJournalIsOf a b = ⊥

abbrev pub HandleFinishesNode : Option Content → Option Content → Type 0
HandleFinishesNode a b = BothStand NodeJournalIsOf a b

-- a node that has forgotten moves or commands
abbrev pub NodeForgot : Content → Type 0
NodeForgot (contents.Node n) = HasAll n.remote.station.runner → ⊥
NodeForgot other = ⊥

abbrev pub StandsForNode : Content → Type 0
StandsForNode (contents.Node n) = ⊤
StandsForNode other = ⊥

-- why there is no journal
pub record NodeNotFinished (code : ℕ) (a : Content) : Type 0 where
  pub forgotten : code ≡ FORGOTTEN → NodeForgot a
  pub wrong : code ≡ WRONG_HANDLE → StandsForNode a → ⊥
  pub only : (code ≡ FORGOTTEN) ⊎ ((code ≡ WRONG_HANDLE) ⊎ (code ≡ NO_MEMORY))

abbrev pub HandleNotFinishedNode : ℕ → Option Content → Type 0
HandleNotFinishedNode code a = WrongOr code (NodeNotFinished code) a
