use Rattle.std.proofs.Common.{◌≡◌, ◌+◌, ◌||◌, ℕ, Bool, ap, arith, refl, subst, sym}
use Rattle.std.proofs.Math.Numerals.{add-one}
use Rattle.lt_modes.specs.Waiting.{stands_before, parked_behind}
use Rattle.lt_lists.specs.Below.{any_below}
use Rattle.lt_spec.specs.Facts.{state_at}
use Rattle.lt_spec.specs.World.{World}
use Rattle.lt_node.specs.Marks.{AreAdded}
use Rattle.lt_node.proofs.AddedLemmas.{added_none, added_same, added_then}
use Rattle.lt_world.specs.Fields.{WorldData, world_of}
use Rattle.lt_world.proofs.world.World.mark_behind.Goals as goal

-- behind an ask of this client at a node
abbrev behind_at : World → ℕ → ℕ → ℕ → ℕ → Bool
behind_at w set client other q = stands_before (state_at w set q) other client || parked_behind (state_at w set q) other client

pub loop-node-init : goal.loop-node-init
loop-node-init c = added_none _ c.args.marks.now.items (λ other. refl)

pub loop-node-preserved : goal.loop-node-preserved
loop-node-preserved c =
    let behind = behind_at (world_of c.args.self.now) c.args.set c.args.client in
    let old = c.args.marks.now.items in
    let node = c.loop-node.node in
    added_same (λ other. any_below node (behind other) || behind other node) (λ other. any_below (node + 1) (behind other)) old c.mark_at.new.marks.items
    (λ other below. ap (λ (n : ℕ). any_below n (behind other)) (sym (add-one node)))
    (added_then (λ other. any_below node (behind other)) (λ other. behind other node) old c.loop-node.marks.items c.mark_at.new.marks.items c.loop-node.invariant c.mark_at.ensures)

pub returns : goal.returns
returns c =
    let behind = behind_at (world_of c.args.self.now) c.args.set c.args.client in
    let all : c.loop-node.node ≡ c.args.self.now.script.nodes =
    omega (arith, c.loop-node-test.false, c.loop-node.auto.node-end, c.nodes-node-end.ensures.nodes, ap (λ (w : WorldData). w.script.nodes) c.self.view_is) in
    subst (λ (n : ℕ). AreAdded (λ other. any_below n (behind other)) c.args.marks.now.items c.loop-node.marks.items) all c.loop-node.invariant
