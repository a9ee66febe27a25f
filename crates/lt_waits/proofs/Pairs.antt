-- The pairs of a graph, one by one, and the lines `void` of them.
use Rattle.std.proofs.Common.{◌≡◌, ◌∙◌, ℕ, ◌+◌, ◌<◌, Bool, false, if◌then◌else◌, arith, List, [], ◌∷◌, ◌++◌, refl, sym, ap, ap₂, append_assoc, append-nil, get_or, length, map, filter, flat_map, take}
use Rattle.std.proofs.lemmas.List.{map-append, take_more}
use Rattle.std.proofs.lemmas.List.Concat.{flat_map-append}
use Rattle.std.proofs.lemmas.List.Elements.{filter-append}
use Rattle.std.proofs.lemmas.List.FromFn.{get_or-map-range_with_len}
use Rattle.lt_modes.specs.declared.event.Event.{Event}
use Rattle.lt_modes.specs.Script.{ScriptData}
use Rattle.lt_text.specs.Text.{text}
use Rattle.lt_spec.specs.Rings.{Graph, ReportLine, VoidLine, numbers_below, void_lines, report}
use Rattle.lt_waits.specs.declared.edge.Edge.{Edge}
use Rattle.lt_waits.specs.Edges.{edge, pair_if, pairs_with, pairs_of}
use Rattle.lt_waits.specs.Reasons.{void_line_text, voids_text}
use Rattle.lt_waits.specs.Serves.{void_line_of, waits_text}
use Rattle.lt_waits.proofs.SoFar.{numbers_push, if_mapped, text_append, report_append, piece_more}

-- the pairs of a client with one client more
pub pairs_push : (graph : Graph) (c k : ℕ) → pairs_with graph c (k + 1) ≡ pairs_with graph c k ++ pair_if graph c k
pairs_push graph c k =
    ap (λ (l : List ℕ). map (edge c) (filter (graph c) l)) (numbers_push k)
    ∙ ap (map (edge c)) (filter-append (graph c) (numbers_below k) (k ∷ []))
    ∙ map-append (edge c) (filter (graph c) (numbers_below k)) (filter (graph c) (k ∷ []))
    ∙ ap (λ (l : List Edge). pairs_with graph c k ++ l) (if_mapped (graph c k) (edge c) k)

pub pair_more : (graph : Graph) (c k : ℕ) (old before now : List Edge) → before ≡ old ++ pairs_with graph c k → now ≡ before ++ pair_if graph c k
    → now ≡ old ++ pairs_with graph c (k + 1)
pair_more graph c k old before now so_far added =
    added
    ∙ ap (λ (l : List Edge). l ++ pair_if graph c k) so_far
    ∙ append_assoc old (pairs_with graph c k) (pair_if graph c k)
    ∙ ap (λ (l : List Edge). old ++ l) (sym (pairs_push graph c k))

-- of a client that is marked, or isn't
pub pair_marked : (graph : Graph) (n c d : ℕ) (marks : List Bool) (mark : Bool) → marks ≡ map (graph c) (numbers_below n) → d < n → get_or marks d false ≡ mark
    → pair_if graph c d ≡ (if mark then edge c d ∷ [] else [])
pair_marked graph n c d marks mark is under e =
    ap (λ (b : Bool). if b then edge c d ∷ [] else [])
    (sym (get_or-map-range_with_len (graph c) 0 n d d false under (omega arith)) ∙ ap (λ (l : List Bool). get_or l d false) (sym is) ∙ e)

-- those of the clients so far, of n
abbrev pub pairs_so_far : ℕ → Graph → ℕ → List Edge
pairs_so_far n graph k = flat_map (λ c. pairs_with graph c n) (numbers_below k)

pub pairs_so_far-push : (n : ℕ) (graph : Graph) (k : ℕ) → pairs_so_far n graph (k + 1) ≡ pairs_so_far n graph k ++ pairs_with graph k n
pairs_so_far-push n graph k =
    ap (flat_map (λ c. pairs_with graph c n)) (numbers_push k)
    ∙ flat_map-append (λ c. pairs_with graph c n) (numbers_below k) (k ∷ [])
    ∙ ap (λ (l : List Edge). pairs_so_far n graph k ++ l) (append-nil (pairs_with graph k n))

line_of_edge : (c : ℕ) (others : List ℕ) → map (VoidLine c) others ≡ map void_line_of (map (edge c) others)
line_of_edge c [] = refl
line_of_edge c (d ∷ rest) = ap (λ (l : List ReportLine). VoidLine c d ∷ l) (line_of_edge c rest)

lines_of_pairs : (n : ℕ) (graph : Graph) (clients : List ℕ)
    → flat_map (λ c. map (VoidLine c) (filter (graph c) (numbers_below n))) clients ≡ map void_line_of (flat_map (λ c. pairs_with graph c n) clients)
lines_of_pairs n graph [] = refl
lines_of_pairs n graph (c ∷ rest) =
    ap₂ ◌++◌ (line_of_edge c (filter (graph c) (numbers_below n))) (lines_of_pairs n graph rest)
    ∙ sym (map-append void_line_of (pairs_with graph c n) (flat_map (λ d. pairs_with graph d n) rest))

-- the lines `void` are those of the pairs
pub void_lines_are : (n : ℕ) (graph : Graph) → void_lines n graph ≡ map void_line_of (pairs_of n graph)
void_lines_are n graph = lines_of_pairs n graph (numbers_below n)

-- a report with these lines behind it
pub report_with : (script : ScriptData) (n : ℕ) (graph behind : Graph) (edges : List Edge) (before now : List ℕ) → edges ≡ pairs_of n behind
    → before ≡ waits_text script (report n graph) → now ≡ before ++ waits_text script (map void_line_of edges)
    → now ≡ waits_text script (report n graph ++ void_lines n behind)
report_with script n graph behind edges before now pairs first last =
    last
    ∙ ap₂ (λ (t : List ℕ) (l : List Edge). t ++ waits_text script (map void_line_of l)) first pairs
    ∙ ap (λ (l : List ReportLine). waits_text script (report n graph) ++ waits_text script l) (sym (void_lines_are n behind))
    ∙ sym (report_append script (report n graph) (void_lines n behind))

-- one line more
pub void_more : (script : ScriptData) (edges : List Edge) (k : ℕ) (d : Edge) (old before now : List ℕ) → k < length edges
    → before ≡ old ++ waits_text script (map void_line_of (take k edges)) → now ≡ before ++ waits_text script (void_line_of (get_or edges k d) ∷ [])
    → now ≡ old ++ waits_text script (map void_line_of (take (k + 1) edges))
void_more script edges k d old before now h so_far added =
    piece_more script now before old (map void_line_of (take k edges)) (void_line_of (get_or edges k d) ∷ []) (map void_line_of (take (k + 1) edges)) added so_far
    (ap (map void_line_of) (take_more edges k d h) ∙ map-append void_line_of (take k edges) (get_or edges k d ∷ []))

pub reason_more : (script : ScriptData) (lines : List Event) (edges : List Edge) (k : ℕ) (d : Edge) (old before now : List ℕ) → k < length edges
    → before ≡ old ++ voids_text script lines (take k edges) → now ≡ before ++ (void_line_text script lines (get_or edges k d) ++ 10 ∷ [])
    → now ≡ old ++ voids_text script lines (take (k + 1) edges)
reason_more script lines edges k d old before now h so_far added =
    let line = void_line_text script lines in
    let x = get_or edges k d in
    added
    ∙ ap (λ (t : List ℕ). t ++ (line x ++ 10 ∷ [])) so_far
    ∙ append_assoc old (voids_text script lines (take k edges)) (line x ++ 10 ∷ [])
    ∙ ap (λ (t : List ℕ). old ++ t)
    (sym (ap (voids_text script lines) (take_more edges k d h) ∙ ap text (map-append line (take k edges) (x ∷ [])) ∙ text_append (map line (take k edges)) (line x ∷ [])))
