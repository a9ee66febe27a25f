use Rattle.std.proofs.Common.{◌≡◌, ◌∙◌, ◌++◌, ℕ, List, [], Bool, All, length, map, subst, sym, ap, ap₂}
use Rattle.std.proofs.lemmas.List.FromFn.{length-map-range_with_len}
use Rattle.lt_modes.specs.Script.{ScriptData}
use Rattle.lt_spec.specs.Holdings.{waits_behind_void}
use Rattle.lt_spec.specs.Rings.{numbers_below}
use Rattle.lt_spec.specs.World.{World}
use Rattle.lt_world.specs.Fields.{world_of}
use Rattle.lt_waits.specs.Edges.{IsEdgeOf}
use Rattle.lt_waits.proofs.Pairs.{pair_more}
use Rattle.lt_waits.proofs.voids.push_voids_of.Goals as goal

-- the marks of a client, as they were asked for
marks_are : (script asked : ScriptData) (w : World) (client count : ℕ) (marks before start : List Bool) → marks ≡ before
    → before ≡ start ++ map (waits_behind_void asked w client) (numbers_below (length asked.clients)) → start ≡ [] → asked ≡ script → count ≡ length script.clients
    → marks ≡ map (waits_behind_void script w client) (numbers_below count)
marks_are script asked w client count marks before start same told none is counted =
    same
    ∙ told
    ∙ ap₂ (λ (old : List Bool) (s : ScriptData). old ++ map (waits_behind_void s w client) (numbers_below (length s.clients))) none is
    ∙ ap (λ (n : ℕ). map (waits_behind_void script w client) (numbers_below n)) (sym counted)

pub push_marked-requires-clause-marks : goal.push_marked-requires-clause-marks
push_marked-requires-clause-marks c =
    let graph = waits_behind_void c.args.script.now (world_of c.args.world.now) in
    ap length (marks_are c.args.script.now c.args.world.now.script (world_of c.args.world.now) c.args.client c.clients.result c.deref.result.now c.push_voids.new.marks.items
    c.new-marks.result.items c.deref.ensures.value c.in_ok-push_voids.ensures.marks c.new-marks.ensures.items c.requires.script c.clients.ensures.clients)
    ∙ length-map-range_with_len (graph c.args.client) 0 c.clients.result

pub loop-other-preserved : goal.loop-other-preserved
loop-other-preserved c =
    let graph = waits_behind_void c.args.script.now (world_of c.args.world.now) in
    let marks = marks_are c.args.script.now c.args.world.now.script (world_of c.args.world.now) c.args.client c.clients.result c.deref.result.now c.push_voids.new.marks.items
    c.new-marks.result.items c.deref.ensures.value c.in_ok-push_voids.ensures.marks c.new-marks.ensures.items c.requires.script c.clients.ensures.clients in
    record {
      pairs = pair_more graph c.args.client c.loop-other.other c.args.edges.now.items c.loop-other.edges.items c.push_marked.new.edges.items
          c.loop-other.invariant.pairs (c.in_ok-push_marked.ensures.pair graph marks);
      within = subst (λ (n : ℕ). All (IsEdgeOf n) c.push_marked.new.edges.items) c.clients.ensures.clients c.in_ok-push_marked.ensures.within;
    }
