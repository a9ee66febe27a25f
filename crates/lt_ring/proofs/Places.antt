-- A list of nodes, from a place on.
use Rattle.std.proofs.Common.{◌≡◌, ◌∙◌, ◌+◌, ◌<◌, ℕ, List, [], ◌∷◌, Some, None, if◌then◌else◌, ap, arith, drop, length, slice_index_or}
use Rattle.std.specs.List.{list_all}
use Rattle.std.proofs.lemmas.List.{drop_more}
use Rattle.lt_node.specs.NodeData.{NodeData}
use Rattle.lt_ring.specs.Seen.{is_alike, clients_seen}

-- the node at the place, and those behind it
pub next_at : (nodes : List NodeData) (k : ℕ) (n : NodeData) → k < length nodes → ((other : NodeData) → slice_index_or nodes k other ≡ n)
    → drop k nodes ≡ n ∷ drop (k + 1) nodes
next_at nodes k n inside at = drop_more nodes k n inside ∙ ap (λ (x : NodeData). x ∷ drop (k + 1) nodes) (at n)

-- how many clients there are, by the first node
pub by_first : (nodes : List NodeData) (first : NodeData) → 0 < length nodes → ((other : NodeData) → slice_index_or nodes 0 other ≡ first)
    → clients_seen nodes ≡ (if list_all (is_alike first) nodes then Some (length first.script.clients) else None)
by_first [] first some at = absurd (omega (arith, some))
by_first (n ∷ rest) first some at = ap (λ (x : NodeData). if list_all (is_alike x) (n ∷ rest) then Some (length x.script.clients) else None) (at n)
