-- Why clients wait: the ring that is named, who waits behind it, and the text that says both.
use Rattle.std.specs.Prelude.{◌↔◌, List, [], ◌∷◌, ◌++◌, ℕ, Option, None, Some, IfSome, IsTrue, is_some, codes, length, Vec}
use Rattle.std.specs.Global.{Global}
use Rattle.lt_modes.specs.declared.event.Event.{Event}
use Rattle.lt_modes.specs.Script.{ScriptData}
use Rattle.lt_spec.specs.Promised.{WaitInRing}
use Rattle.lt_spec.specs.Holdings.{lines_of, waits_for, waits_behind_void}
use Rattle.lt_spec.specs.World.{Logged, world_after}
use Rattle.lt_spec.specs.Rings.{Graph}
use Rattle.lt_waits.specs.declared.edge.Edge.{Edge}
use Rattle.lt_waits.specs.Behind.{behind, idle}
use Rattle.lt_waits.specs.Edges.{ring_edges, pairs_of}
use Rattle.lt_waits.specs.Reasons.{waits_by_lock, edges_text, voids_text}
use Rattle.lt_waits.specs.Shortest.{IsRingNamed}

-- at the end of the run a ring is named exactly if clients wait in one
pub record NamesRing (script : ScriptData) (run : List Logged) (found : Option (List ℕ)) : Type 0 where
  pub some : IsTrue (is_some found) ↔ WaitInRing script (world_after script run)
  pub named : IfSome found
      (IsRingNamed (length script.clients) (waits_by_lock script run) (waits_for script (world_after script run)))

-- the clients of what was found
abbrev pub items_of : Option (Vec ℕ Global) → Option (List ℕ)
items_of None = None
items_of (Some found) = Some found.items

-- the lines of those who wait behind a ring
abbrev pub behind_text : ScriptData → List Event → List Edge → List ℕ
behind_text script lines [] = []
behind_text script lines (first ∷ rest) = codes "behind the ring\n" ++ edges_text script lines (first ∷ rest)

-- what is said of these graphs: the ring and who waits behind it; where there is no ring, all who wait
abbrev pub why_of : ScriptData → List Event → Graph → Graph → Option (List ℕ) → List ℕ
why_of script lines locks graph None =
    codes "no ring\n"
    ++ edges_text script lines (behind (length script.clients) locks graph (idle (length script.clients) graph))
why_of script lines locks graph (Some ring) =
    codes "ring\n" ++ edges_text script lines (ring_edges ring)
    ++ behind_text script lines (behind (length script.clients) locks graph ring)

-- the lines of those who wait behind void asks
abbrev pub void_text : ScriptData → List Logged → List ℕ
void_text script run =
    voids_text script (lines_of run)
    (pairs_of (length script.clients) (waits_behind_void script (world_after script run)))

-- what is said of the end of the run, where this ring is named, and who waits behind void asks
abbrev pub why_text : ScriptData → List Logged → Option (List ℕ) → List ℕ
why_text script run found =
    why_of script (lines_of run) (waits_by_lock script run) (waits_for script (world_after script run)) found
    ++ void_text script run
