-- What C is told of nodes in processes of their own, but for their letters, in literals.
use Rattle.std.specs.Prelude.{◌≡◌, ◌≢◌, ◌<◌, ◌≤◌, ◌⊎◌, [], ℕ, List, false, Option, Some, Ok, length}
use Rattle.lt_modes.specs.Script.{ScriptData}
use Rattle.lt_frames.specs.Sealing.{service_number}
use Rattle.lt_journal.specs.RunLines.{text_of}
use Rattle.lt_script.specs.Printing.{print_of}
use Rattle.lt_script.specs.Reading.{read_of}
use Rattle.lt_runner.specs.Kept.{HasAll}
use Rattle.lt_apart.specs.Remote.{IsOpenRemote, brought, given, me, nodes}
use Rattle.lt_live_c.specs.declared.content.Content.{Content}
use Rattle.lt_live_c.specs.declared.content.Content.TheVariants as contents
use Rattle.lt_live_c.specs.OwnNode.{OwnNode}
use Rattle.lt_live_c.specs.Nodes.{NodeOpenRefused, TellsPending, sent_by, unsent}
use Rattle.lt_live_c.specs.NodeCalls.{HandleOpenedNode, AtNode, HandleFinishesNode, HandleNotFinishedNode}
use Rattle.lt_live_c.specs.Opening.{fits_for_c}
use Rattle.lt_live_c.specs.Told.{kind_of, IsOfKind}
use Rattle.lt_live_c.specs.ServicesTold.{client_text, client_script, OfJournal}

-- the handle stands for a node of which this is so
abbrev pub OfNode : Option Content → (OwnNode → Type 0) → Type 0
OfNode (Some (contents.Node n)) Told = Told n
OfNode other Told = ⊥

-- this is so of node 0 of a script with one node, which was opened with this key and at the fifth start
abbrev pub AfterNodeOpen : (List ℕ → OwnNode → Type 0) → Type 0
AfterNodeOpen Told =
    (key : List ℕ) (new : Option Content) → HandleOpenedNode client_text 0 key 5 9 2 new → OfNode new (Told key)

-- what was opened; and why nothing was
pub record NodeOpensTold : Type 0 where
  pub opened : AfterNodeOpen (λ key n. IsOpenRemote client_script 0 (service_number client_text 5) key 9 2 576460752303423488
      n.remote n.sessions)
  pub service : AfterNodeOpen (λ key n. n.remote.service ≡ service_number client_text 5)
  pub key : AfterNodeOpen (λ key n. n.remote.key ≡ key)
  pub number : AfterNodeOpen (λ key n. me n.remote ≡ 0)
  pub script : AfterNodeOpen (λ key n. n.remote.station.runner.node.script ≡ client_script)
  pub nothing_made : AfterNodeOpen (λ key n. n.remote.station.runner.log.entries ≡ [])
  pub nothing_brought : AfterNodeOpen (λ key n. (from : ℕ) → brought n.remote from ≡ [])
  pub nothing_given : AfterNodeOpen (λ key n. (to : ℕ) → given n.remote to ≡ [])
  pub nothing_unsent : AfterNodeOpen (λ key n. (to : ℕ) → unsent n to ≡ [])
  pub never_opened : (key : List ℕ) (new : Option Content) → HandleOpenedNode [] 0 key 5 9 2 new → ⊥
  pub no_such_node : (key : List ℕ) (new : Option Content) → HandleOpenedNode client_text 1 key 5 9 2 new → ⊥
  pub in_range : (text : List ℕ) (node limit places : ℕ) (script : ScriptData)
      → length text ≤ 1048576 → 0 < limit → limit ≤ 36028797018963968 → 0 < places → places ≤ 4096
      → read_of text ≡ Ok script → node < script.nodes → NodeOpenRefused 4 text node limit places → ⊥
  pub out_of_range : (code : ℕ) (text : List ℕ) (node limit places : ℕ)
      → fits_for_c text limit places ≡ false → NodeOpenRefused code text node limit places → code ≡ 4
  pub no_fault : (text : List ℕ) (node limit places : ℕ) (script : ScriptData)
      → read_of text ≡ Ok script → NodeOpenRefused 5 text node limit places → ⊥
  pub open_codes : (code : ℕ) (text : List ℕ) (node limit places : ℕ) → NodeOpenRefused code text node limit places
      → (code ≡ 4) ⊎ ((code ≡ 5) ⊎ (code ≡ 3))

-- this is so of each call with this code that asks whether something waits for the node `to`, by the node before and
-- after it
abbrev pub AfterPending : ℕ → (ℕ → OwnNode → OwnNode → Type 0) → Type 0
AfterPending code Told =
    (to : ℕ) (a : OwnNode) (new : Option Content) → AtNode code to (TellsPending code to) (Some (contents.Node a)) new
    → OfNode new (Told to a)

-- whether something waits to be carried
pub record PendingTold : Type 0 where
  pub waits : AfterPending 0 (λ to a b. (unsent b to ≢ []) ⊎ (length (given b.remote to) < length (sent_by b to)))
  pub all_given : AfterPending 1 (λ to a b. sent_by b to ≡ given b.remote to)
  pub nothing_unsent : AfterPending 1 (λ to a b. unsent b to ≡ [])
  pub no_peer : AfterPending 4 (λ to a b. to < nodes a.remote → to ≢ me a.remote → ⊥)
  pub same : AfterPending 4 (λ to a b. b ≡ a)
  pub given_stays : (code : ℕ) → AfterPending code (λ to a b. (node : ℕ) → given b.remote node ≡ given a.remote node)
  pub brought_stays : (code : ℕ)
      → AfterPending code (λ to a b. (node : ℕ) → brought b.remote node ≡ brought a.remote node)
  pub unsent_stays : (code : ℕ) → AfterPending code (λ to a b. (node : ℕ) → unsent b node ≡ unsent a node)
  pub log_stays : (code : ℕ)
      → AfterPending code (λ to a b. b.remote.station.runner.log.entries ≡ a.remote.station.runner.log.entries)
  pub others : (to : ℕ) → IsOfKind 4 (λ code old new. AtNode code to (TellsPending code to) old new)
  pub only : (code : ℕ) → AfterPending code (λ to a b. (code ≡ 0) ⊎ ((code ≡ 1) ⊎ (code ≡ 4)))

-- what a node's journal tells; and why there is none
pub record NodeFinishesTold : Type 0 where
  pub script : (n : OwnNode) (new : Option Content) → HandleFinishesNode (Some (contents.Node n)) new
      → OfJournal new (λ journal. journal.script.items ≡ print_of n.remote.station.runner.node.script)
  pub text : (n : OwnNode) (new : Option Content) → HandleFinishesNode (Some (contents.Node n)) new
      → OfJournal new (λ journal. journal.text.items
      ≡ text_of n.remote.station.runner.node.script n.remote.station.runner.log.entries (Some (me n.remote)))
  pub held : (n : OwnNode) (new : Option Content) → HandleFinishesNode (Some (contents.Node n)) new
      → OfJournal new (λ journal. journal.held ≡ 0)
  pub waiting : (n : OwnNode) (new : Option Content) → HandleFinishesNode (Some (contents.Node n)) new
      → OfJournal new (λ journal. journal.waiting ≡ 0)
  pub never_of_others : (content : Content) (new : Option Content) → kind_of content ≢ 4
      → HandleFinishesNode (Some content) new → ⊥
  pub forgotten : (n : OwnNode) → HasAll n.remote.station.runner → HandleNotFinishedNode 9 (Some (contents.Node n)) → ⊥
  pub forgotten_of_others : (content : Content) → kind_of content ≢ 4 → HandleNotFinishedNode 9 (Some content) → ⊥
  pub wrong : (n : OwnNode) → HandleNotFinishedNode 2 (Some (contents.Node n)) → ⊥
  pub finish_codes : (code : ℕ) (content : Content) → HandleNotFinishedNode code (Some content)
      → (code ≡ 9) ⊎ ((code ≡ 2) ⊎ (code ≡ 3))
