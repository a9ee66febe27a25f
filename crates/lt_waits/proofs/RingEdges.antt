-- The edges of a ring, one by one.
use Rattle.std.proofs.Common.{◌≡◌, ◌∙◌, ℕ, ◌+◌, ◌<◌, ◌≤◌, List, [], ◌∷◌, ◌++◌, length, drop, get_or, refl, sym, ap, arith, append_assoc, append-nil}
use Rattle.std.proofs.lemmas.List.{drop_more, drop_all}
use Rattle.lt_spec.specs.Rings.{first_or}
use Rattle.lt_waits.specs.declared.edge.Edge.{Edge}
use Rattle.lt_waits.specs.Edges.{edge, edges_along}

pub first_left : (goal : ℕ) (xs : List ℕ) (k : ℕ) → k < length xs → first_or goal (drop k xs) ≡ get_or xs k 0
first_left goal xs k h = ap (first_or goal) (drop_more xs k 0 h)

pub first_of_none : (goal : ℕ) (xs : List ℕ) (k : ℕ) → length xs ≤ k → first_or goal (drop k xs) ≡ goal
first_of_none goal xs k h = ap (first_or goal) (drop_all k xs h)

pub first_at : (xs : List ℕ) → 0 < length xs → get_or xs 0 0 ≡ first_or 0 xs
first_at [] h = absurd (omega (arith, h))
first_at (x ∷ rest) h = refl

-- what was added, and one edge more
pub edge_more : (ring : List ℕ) (goal k client other : ℕ) (old now all : List Edge) → k < length ring → get_or ring k 0 ≡ client → other ≡ first_or goal (drop (k + 1) ring)
    → now ≡ old ++ edge client other ∷ [] → old ++ edges_along (drop k ring) goal ≡ all → now ++ edges_along (drop (k + 1) ring) goal ≡ all
edge_more ring goal k client other old now all h at next pushed so_far =
    ap (λ (l : List Edge). l ++ edges_along (drop (k + 1) ring) goal) pushed
    ∙ append_assoc old (edge client other ∷ []) (edges_along (drop (k + 1) ring) goal)
    ∙ ap (λ (x : ℕ). old ++ edge client x ∷ edges_along (drop (k + 1) ring) goal) next
    ∙ ap (λ (x : ℕ). old ++ edge x (first_or goal (drop (k + 1) ring)) ∷ edges_along (drop (k + 1) ring) goal) (sym at)
    ∙ ap (λ (l : List ℕ). old ++ edges_along l goal) (sym (drop_more ring k 0 h))
    ∙ so_far

-- no client is left
pub edges_end : (ring : List ℕ) (goal k : ℕ) (edges all : List Edge) → length ring ≤ k → edges ++ edges_along (drop k ring) goal ≡ all → edges ≡ all
edges_end ring goal k edges all h e =
    sym (append-nil edges) ∙ ap (λ (l : List ℕ). edges ++ edges_along l goal) (sym (drop_all k ring h)) ∙ e
