-- For what clients wait, one client more.
use Rattle.std.proofs.Common.{◌≡◌, ◌∙◌, ◌+◌, ◌++◌, ◌∷◌, [], ℕ, inl, inr, List, Option, None, sym, ap, arith, length, slice_index_or}
use Rattle.std.proofs.lemmas.Bool.{cases_lt}
use Rattle.std.proofs.lemmas.List.{get_or_append_left, get_or_push, length_push}
use Rattle.lt_modes.specs.declared.mode.Mode.{Mode}
use Rattle.lt_node.specs.NodeData.{NodeData}
use Rattle.lt_ring.specs.Seen.{AreWaits, wait_seen}

pub waits_more : (nodes : List NodeData) (k : ℕ) (waits now : List (Option (ℕ × Mode))) (wait : Option (ℕ × Mode)) → AreWaits nodes k waits
    → wait ≡ wait_seen nodes k → now ≡ waits ++ wait ∷ [] → AreWaits nodes (k + 1) now
waits_more nodes k waits now wait are is pushed = record {
  count = ap length pushed ∙ length_push waits wait ∙ ap (λ (x : ℕ). x + 1) are.count;
  each = λ c h. ap (λ (l : List (Option (ℕ × Mode))). slice_index_or l c None) pushed ∙ elim (cases_lt c k) [
    | inl before ↦ get_or_append_left waits (wait ∷ []) None c (omega (arith, before, are.count)) ∙ are.each c before
    | inr more ↦
        let last : c ≡ k = omega (arith, h, more) in
        get_or_push waits wait None c (are.count ∙ sym last) ∙ is ∙ ap (wait_seen nodes) (sym last)
  ];
}
