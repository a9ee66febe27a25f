use Rattle.std.proofs.Common.{◌≡◌, ◌∙◌, ◌<◌, ◌++◌, All, ℕ, List, length, ap, ap₂, sym, subst, arith}
use Rattle.lt_modes.specs.Script.{ScriptData}
use Rattle.lt_spec.specs.Holdings.{lines_of, waits_for, waits_behind_void}
use Rattle.lt_spec.specs.World.{Logged, world_after}
use Rattle.lt_waits.specs.declared.edge.Edge.{Edge}
use Rattle.lt_waits.specs.Edges.{IsEdgeOf, pairs_of}
use Rattle.lt_waits.specs.Serves.{graph_of, Tells}
use Rattle.lt_waits.specs.Reasons.{by_lock, voids_text}
use Rattle.lt_waits.specs.Tallied.{TalliedData}
use Rattle.lt_waits.specs.Why.{items_of, why_of}
use Rattle.lt_waits.proofs.Naming.{named_below, part_of, why_said}
use Rattle.lt_waits.proofs.saying.why.Goals as goal

pub lock_graph-requires : goal.lock_graph-requires
lock_graph-requires c = c.in_ok-graph.ensures.clients ∙ ap (λ (t : TalliedData). length t.script.clients) (sym c.in_ok-tallied.ensures)

pub text_of-requires-clause-clients : goal.text_of-requires-clause-clients
text_of-requires-clause-clients c = c.in_ok-graph.ensures.clients ∙ ap (λ (t : TalliedData). length t.script.clients) (sym c.in_ok-tallied.ensures)

pub named_ring-requires-clause-part : goal.named_ring-requires-clause-part
named_ring-requires-clause-part c = part_of c.in_ok-tallied.tallied.script c.in_ok-tallied.tallied.lines c.in_ok-graph.graph c.in_ok-locks.locks c.in_ok-locks.ensures.clients c.in_ok-locks.ensures.told

pub text_of-requires-clause-ring : goal.text_of-requires-clause-ring
text_of-requires-clause-ring c =
    named_below c.in_ok-graph.graph.clients (graph_of c.in_ok-locks.locks) (graph_of c.in_ok-graph.graph) c.in_ok-found.found c.in_ok-found.ensures.named

pub push_void_edges-requires : goal.push_void_edges-requires
push_void_edges-requires c =
    let script_is : c.in_ok-tallied.tallied.script ≡ c.args.script.now = ap (λ (t : TalliedData). t.script) c.in_ok-tallied.ensures in
    subst (λ (l : List Edge). All (IsEdgeOf (length c.in_ok-tallied.tallied.script.clients)) l) (sym c.deref.ensures.value)
    (subst (λ (s : ScriptData). All (IsEdgeOf (length s.clients)) c.in_ok-voids.voids.items) (sym script_is) c.in_ok-voids.ensures.within)

pub returns : goal.returns
returns c =
    let script = c.args.script.now in
    let run = c.args.world.now.run in
    let graph = c.in_ok-graph.graph in
    let locks = c.in_ok-locks.locks in
    let found = c.in_ok-found.found in
    let tallied_is : c.in_ok-tallied.tallied ≡ record { script = script; lines = lines_of run } = c.in_ok-tallied.ensures ∙ ap (λ (r : List Logged). record { script = script; lines = lines_of r }) c.run.ensures in
    let waits = subst (λ (s : ScriptData). Tells graph (waits_for script (world_after s run))) c.requires c.in_ok-graph.ensures.told in
    let pairs = c.deref.ensures.value ∙ c.in_ok-voids.ensures.pairs ∙ ap (λ (s : ScriptData). pairs_of (length script.clients) (waits_behind_void script (world_after s run))) c.requires in
    let told = subst (λ (t : TalliedData). Tells locks (by_lock t.script t.lines (graph_of graph))) tallied_is c.in_ok-locks.ensures.told in
    let told_of : (d e : ℕ) → d < graph.clients → e < graph.clients → graph_of locks d e ≡ by_lock script (lines_of run) (graph_of graph) d e =
    λ d e h k. told d e (omega (arith, h, c.in_ok-locks.ensures.clients)) (omega (arith, k, c.in_ok-locks.ensures.clients)) in
    why_said script run graph.clients (graph_of locks) (graph_of graph) found c.push_void_edges.new.out.items c.in_ok-graph.ensures.clients (record {
      waits = waits;
      locks_are = told_of;
      some = c.in_ok-found.ensures.some;
      named = c.in_ok-found.ensures.named;
      told = c.in_ok-push_void_edges.ensures
          ∙ ap₂ (λ (s : List ℕ) (edges : List Edge). s ++ voids_text c.in_ok-tallied.tallied.script c.in_ok-tallied.tallied.lines edges) c.in_ok-text.ensures pairs
          ∙ ap (λ (t : TalliedData). why_of t.script t.lines (graph_of locks) (graph_of graph) (items_of found)
          ++ voids_text t.script t.lines (pairs_of (length script.clients) (waits_behind_void script (world_after script run)))) tallied_is;
    })
