-- The edges of the rounds so far and of those that are left.
use Rattle.std.proofs.Common.{◌≡◌, ◌∙◌, ℕ, suc, ◌+◌, ◌<◌, List, [], ◌∷◌, ◌++◌, ap, sym, append_assoc, get_or, length, map, take}
use Rattle.std.proofs.lemmas.List.{map-append, take_more}
use Rattle.lt_modes.specs.declared.event.Event.{Event}
use Rattle.lt_modes.specs.Script.{ScriptData}
use Rattle.lt_text.specs.Text.{text}
use Rattle.lt_spec.specs.Rings.{Graph}
use Rattle.lt_waits.specs.declared.edge.Edge.{Edge}
use Rattle.lt_waits.specs.Behind.{edges_to, behind_from}
use Rattle.lt_waits.specs.Reasons.{edge_line, edges_text}
use Rattle.lt_waits.specs.Shortest.{waiting_for, not_waiting_for}
use Rattle.lt_waits.proofs.SoFar.{text_append}

-- one round more
pub round_more : (k : ℕ) (locks graph : Graph) (layer left next rest : List ℕ) (before now all : List Edge)
    → now ≡ before ++ edges_to locks graph layer left → next ≡ waiting_for graph layer left → rest ≡ not_waiting_for graph layer left
    → before ++ behind_from (suc k) locks graph layer left ≡ all → now ++ behind_from k locks graph next rest ≡ all
round_more k locks graph layer left next rest before now all added goes stays so_far =
    ap (λ (l : List Edge). l ++ behind_from k locks graph next rest) added
    ∙ append_assoc before (edges_to locks graph layer left) (behind_from k locks graph next rest)
    ∙ ap (λ (l : List ℕ). before ++ (edges_to locks graph layer left ++ behind_from k locks graph l rest)) goes
    ∙ ap (λ (l : List ℕ). before ++ (edges_to locks graph layer left ++ behind_from k locks graph (waiting_for graph layer left) l)) stays
    ∙ so_far

-- one line more
pub lines_more : (script : ScriptData) (lines : List Event) (edges : List Edge) (k : ℕ) (d : Edge) (old before now : List ℕ) → k < length edges
    → before ≡ old ++ edges_text script lines (take k edges) → now ≡ before ++ (edge_line script lines (get_or edges k d) ++ 10 ∷ [])
    → now ≡ old ++ edges_text script lines (take (k + 1) edges)
lines_more script lines edges k d old before now h so_far added =
    let line = edge_line script lines in
    let x = get_or edges k d in
    added
    ∙ ap (λ (t : List ℕ). t ++ (line x ++ 10 ∷ [])) so_far
    ∙ append_assoc old (edges_text script lines (take k edges)) (line x ++ 10 ∷ [])
    ∙ ap (λ (t : List ℕ). old ++ t)
    (sym (ap (edges_text script lines) (take_more edges k d h) ∙ ap text (map-append line (take k edges) (x ∷ [])) ∙ text_append (map line (take k edges)) (line x ∷ [])))
