-- The number that C gives is that of another node.
use Rattle.std.proofs.Common.{◌≡◌, ℕ, List, inl, subst}
use Rattle.lt_live_c.specs.OwnNode.{OwnNode}
use Rattle.lt_live_c.specs.Nodes.{IsPeer, Receives}
use Rattle.lt_live_c.specs.NodeCalls.{WithPeer}

pub received_from : (code peer from was used : ℕ) (bytes : List ℕ) (a b : OwnNode) → peer ≡ from → IsPeer a from
    → Receives code peer was used bytes a b → WithPeer code from (Receives code from was used bytes) a b
received_from code peer from was used bytes a b same is_peer h =
    inl (is_peer, subst (λ (k : ℕ). Receives code k was used bytes a b) same h)
