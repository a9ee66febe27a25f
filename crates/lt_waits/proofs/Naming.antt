-- The ring that is named, and what is said of it.
use Rattle.std.proofs.Common.{◌≡◌, ◌∙◌, ℕ, ◌<◌, List, [], ◌∷◌, ◌++◌, length, Option, Some, None, Vec, Global, Bool, true, false, IfSome, IsTrue, is_some, refl, sym, subst, ap, arith, All, ◌↔◌, ◌&&◌, codes}
use Rattle.std.proofs.lemmas.Bool.{and_parts, false≢true}
use Rattle.std.proofs.lemmas.List.Elements.{Contains-get_or}
use Rattle.lt_modes.specs.declared.event.Event.{Event}
use Rattle.lt_modes.specs.Script.{ScriptData}
use Rattle.lt_spec.specs.Holdings.{lines_of, waits_for}
use Rattle.lt_spec.specs.World.{Logged, world_after}
use Rattle.lt_spec.specs.Rings.{Graph, AreBelow, IsPath, IsRing}
use Rattle.lt_waits.specs.declared.edge.Edge.{Edge}
use Rattle.lt_waits.specs.Behind.{behind, idle}
use Rattle.lt_waits.specs.Edges.{ring_edges}
use Rattle.lt_waits.specs.Serves.{GraphData, graph_of, Tells}
use Rattle.lt_waits.specs.Reasons.{is_barred, want_of, by_lock, waits_by_lock, edges_text}
use Rattle.lt_waits.specs.Shortest.{HasRing, IsRingOf, IsShortest, IsRingNamed}
use Rattle.lt_waits.specs.Why.{NamesRing, items_of, behind_text, void_text, why_of, why_text}
use Rattle.lt_waits.proofs.SameGraph.{Agree, agree_back, are_clients, first_below, has_ring_same, named_same, behind_same, idle_clients, idle_same}
use Rattle.lt_lists.proofs.Members.{contains_first, contains_later}

-- who waits by locks waits
abbrev pub IsPartOf : ℕ → Graph → Graph → Type 0
IsPartOf n locks graph = (c d : ℕ) → c < n → d < n → IsTrue (locks c d) → IsTrue (graph c d)

-- a graph of those who wait by locks is such a one
pub part_of : (script : ScriptData) (lines : List Event) (graph locks : GraphData) → locks.clients ≡ graph.clients
    → Tells locks (by_lock script lines (graph_of graph)) → IsPartOf graph.clients (graph_of locks) (graph_of graph)
part_of script lines graph locks same told c d h k e =
    (and_parts (graph_of graph c d) (is_barred script lines (want_of script lines c) d) (sym (told c d (omega (arith, h, same)) (omega (arith, k, same))) ∙ e)).0

path_of_part : (n : ℕ) (locks graph : Graph) → IsPartOf n locks graph → (path : List ℕ) (goal : ℕ) → AreBelow n path → goal < n → IsPath locks path goal → IsPath graph path goal
path_of_part n locks graph part [] goal below under goes = tt
path_of_part n locks graph part (c ∷ rest) goal below under goes =
    let later : AreBelow n rest = λ d there. below d (contains_later c d rest there) in
    (part c _ (below c (contains_first c c rest refl)) (first_below n goal rest under later) goes.0, path_of_part n locks graph part rest goal later under goes.1)

ring_of_part : (n : ℕ) (locks graph : Graph) → IsPartOf n locks graph → (ring : List ℕ) → AreBelow n ring → IsRing locks ring → IsRing graph ring
ring_of_part n locks graph part [] below closed = absurd closed
ring_of_part n locks graph part (c ∷ rest) below closed = path_of_part n locks graph part (c ∷ rest) c below (below c (contains_first c c rest refl)) closed

module _ (n : ℕ) (locks graph : Graph) where
  -- a ring by locks was found
  pub some_by_locks : (found : Option (Vec ℕ Global)) → IsPartOf n locks graph → is_some found ≡ true → IfSome found (λ ring. IsRingOf n locks ring.items)
      → IsTrue (is_some found) ↔ HasRing n graph
  some_by_locks None part e is = absurd (false≢true e)
  some_by_locks (Some ring) part e is = (λ k. (ring.items, is.below, ring_of_part n locks graph part ring.items is.below is.ring), λ has. refl)

  pub named_by_locks : (found : Option (Vec ℕ Global)) → IsPartOf n locks graph → IfSome found (λ ring. IsRingOf n locks ring.items)
      → IfSome found (λ ring. IsShortest n locks ring.items) → IfSome found (λ ring. IsRingNamed n locks graph ring.items)
  named_by_locks None part is short = tt
  named_by_locks (Some ring) part is short = record {
    ring_is = record { below = is.below; ring = ring_of_part n locks graph part ring.items is.below is.ring; distinct = is.distinct };
    by_locks = λ has. (is.ring, short);
    by_any = λ none. absurd (none (ring.items, is.below, is.ring));
  }

  -- there is none by locks
  pub named_by_any : (by_locks found : Option (Vec ℕ Global)) → is_some by_locks ≡ false → (IsTrue (is_some by_locks) ↔ HasRing n locks)
      → IfSome found (λ ring. IsRingOf n graph ring.items) → IfSome found (λ ring. IsShortest n graph ring.items)
      → IfSome found (λ ring. IsRingNamed n locks graph ring.items)
  named_by_any by_locks None none some is short = tt
  named_by_any by_locks (Some ring) none some is short = record {
    ring_is = is;
    by_locks = λ has. absurd (false≢true (sym none ∙ some.1 has));
    by_any = λ without. short;
  }

-- the clients of a ring that was named
pub named_below : (n : ℕ) (locks graph : Graph) (found : Option (Vec ℕ Global)) → IfSome found (λ ring. IsRingNamed n locks graph ring.items)
    → IfSome found (λ ring. All (λ c. c < n) ring.items)
named_below n locks graph None named = tt
named_below n locks graph (Some ring) named = λ k d within. named.ring_is.below _ (Contains-get_or ring.items k d within)

pub behind_none : (script : ScriptData) (lines : List Event) (edges : List Edge) → length edges ≡ 0 → behind_text script lines edges ≡ []
behind_none script lines [] e = refl
behind_none script lines (first ∷ rest) e = absurd (omega (arith, e))

pub behind_some : (script : ScriptData) (lines : List Event) (edges : List Edge) → 0 < length edges
    → behind_text script lines edges ≡ codes "behind the ring\n" ++ edges_text script lines edges
behind_some script lines [] h = absurd (omega (arith, h))
behind_some script lines (first ∷ rest) h = refl

-- what is said of graphs that agree
why_same : (script : ScriptData) (lines : List Event) (la lb ga gb : Graph) (found : Option (List ℕ)) → Agree (length script.clients) la lb → Agree (length script.clients) ga gb
    → IfSome found (λ ring. AreBelow (length script.clients) ring) → why_of script lines la ga found ≡ why_of script lines lb gb found
why_same script lines la lb ga gb None locks graph below =
    let n = length script.clients in
    ap (λ (edges : List Edge). codes "no ring\n" ++ edges_text script lines edges)
    (behind_same n la lb ga gb locks graph (idle n ga) (idle_clients n la lb ga gb locks graph) ∙ ap (behind n lb gb) (idle_same n la lb ga gb locks graph))
why_same script lines la lb ga gb (Some ring) locks graph below =
    let n = length script.clients in
    ap (λ (edges : List Edge). codes "ring\n" ++ edges_text script lines (ring_edges ring) ++ behind_text script lines edges)
    (behind_same n la lb ga gb locks graph ring (are_clients n ring below))

-- what was found in these graphs, and what was said of it
pub record Said (script : ScriptData) (run : List Logged) (n : ℕ) (locks graph : Graph) (found : Option (Vec ℕ Global)) (text : List ℕ) : Type 0 where
  pub waits : Agree n graph (waits_for script (world_after script run))
  pub locks_are : Agree n locks (by_lock script (lines_of run) graph)
  pub some : IsTrue (is_some found) ↔ HasRing n graph
  pub named : IfSome found (λ ring. IsRingNamed n locks graph ring.items)
  pub told : text ≡ why_of script (lines_of run) locks graph (items_of found) ++ void_text script run

some_items : (found : Option (Vec ℕ Global)) → is_some (items_of found) ≡ is_some found
some_items None = refl
some_items (Some ring) = refl

of_items : (P : List ℕ → Type 0) (found : Option (Vec ℕ Global)) → IfSome found (λ ring. P ring.items) → IfSome (items_of found) P
of_items P None h = tt
of_items P (Some ring) h = h

if_some : (P Q : List ℕ → Type 0) → ((ring : List ℕ) → P ring → Q ring) → (found : Option (List ℕ)) → IfSome found P → IfSome found Q
if_some P Q f None h = tt
if_some P Q f (Some ring) h = f ring h

said_of : (script : ScriptData) (run : List Logged) (locks graph : Graph) (found : Option (Vec ℕ Global)) (text : List ℕ)
    → Said script run (length script.clients) locks graph found text
    → (ring : Option (List ℕ)) × NamesRing script run ring × (text ≡ why_text script run ring)
said_of script run locks graph found text said = (
  items_of found,
  record {
    some = (
      λ e. has_ring_same n graph waits said.waits (said.some.0 (sym (some_items found) ∙ e)),
      λ has. some_items found ∙ said.some.1 (has_ring_same n waits graph (agree_back n graph waits said.waits) has),
    );
    named = if_some (IsRingNamed n locks graph) (IsRingNamed n (waits_by_lock script run) waits)
        (λ ring named. named_same n locks (waits_by_lock script run) graph waits by_locks said.waits ring named) (items_of found) given;
  },
  said.told ∙ ap (λ (t : List ℕ). t ++ void_text script run)
      (why_same script (lines_of run) locks (waits_by_lock script run) graph waits (items_of found) by_locks said.waits
      (if_some (IsRingNamed n locks graph) (AreBelow n) (λ ring named. named.ring_is.below) (items_of found) given)),
)
  where
    n : ℕ
    n = length script.clients

    waits : Graph
    waits = waits_for script (world_after script run)

    by_locks : Agree n locks (waits_by_lock script run)
    by_locks c d h k = said.locks_are c d h k ∙ ap (λ (t : Bool). t && is_barred script (lines_of run) (want_of script (lines_of run) c) d) (said.waits c d h k)

    given : IfSome (items_of found) (IsRingNamed n locks graph)
    given = of_items (IsRingNamed n locks graph) found said.named

pub why_said : (script : ScriptData) (run : List Logged) (n : ℕ) (locks graph : Graph) (found : Option (Vec ℕ Global)) (text : List ℕ) → n ≡ length script.clients
    → Said script run n locks graph found text
    → (ring : Option (List ℕ)) × NamesRing script run ring × (text ≡ why_text script run ring)
why_said script run n locks graph found text same said =
    said_of script run locks graph found text (subst (λ (m : ℕ). Said script run m locks graph found text) same said)
