use Rattle.std.proofs.Common.{◌≡◌, ◌<◌, ◌∙◌, ℕ, None, true, false, arith, sym, ap, subst, IsTrue}
use Rattle.lt_modes.specs.declared.moves.Step.{Step}
use Rattle.lt_spec.specs.World.{is_enabled, moves_of, is_full, full_node}
use Rattle.lt_world.specs.Fields.{WorldData, world_of}
use Rattle.lt_spec.proofs.LeastFull.{least_full, none_full}
use Rattle.lt_world.proofs.TurnMoves.{none_at_limit, room_left}
use Rattle.lt_world.proofs.world.World.full.Goals as goal

pub returns-then-self-clause-full : goal.returns-then-self-clause-full
returns-then-self-clause-full c =
    let s = c.self.inside in
    let none = none_at_limit s.script s.limit s.most s.network.run.entries c.self.invariant.at_most (omega (arith, c.if-self.true)) in
    sym (subst (λ (w : WorldData). full_node w.script w.limit w.run ≡ None) c.self.view_is (none_full s.script s.limit s.network.run.entries none))

pub returns-then-self-clause-room : goal.returns-then-self-clause-room
returns-then-self-clause-room c = λ none q step e.
    let s = c.self.inside in
    let none' = none_at_limit s.script s.limit s.most s.network.run.entries c.self.invariant.at_most (omega (arith, c.if-self.true)) in
    subst (λ (w : WorldData). (q : ℕ) (step : Step) → IsTrue (is_enabled w.script (world_of w) q step) → moves_of q w.run < w.limit)
    c.self.view_is (room_left s.script s.limit s.moves.items s.network.run.entries c.self.invariant.holds.is_script c.self.invariant.counted none') q step e

pub returns-then-is_full-clause-full : goal.returns-then-is_full-clause-full
returns-then-is_full-clause-full c =
    let w = c.args.self.now in
    let here : is_full w.script w.limit w.run c.loop-node.node ≡ true = sym c.is_full.ensures ∙ c.if-is_full.true in
    let nodes = ap (λ (w : WorldData). w.script.nodes) c.self.view_is in
    let inside : c.loop-node.node < w.script.nodes = omega (arith, c.loop-node-test.true, c.nodes-node-end.ensures.nodes, nodes) in
    sym (least_full w.script w.limit w.run c.loop-node.node inside c.loop-node.invariant here)

pub returns-clause-full : goal.returns-clause-full
returns-clause-full c =
    let w = c.args.self.now in
    let nodes = ap (λ (w : WorldData). w.script.nodes) c.self.view_is in
    sym (none_full w.script w.limit w.run (λ k below. c.loop-node.invariant k (omega (arith, below, c.loop-node-test.false, c.nodes-node-end.ensures.nodes, nodes))))

pub returns-clause-room : goal.returns-clause-room
returns-clause-room c = λ none q step e.
    let w = c.args.self.now in
    let s = c.self.inside in
    let nodes = ap (λ (w : WorldData). w.script.nodes) c.self.view_is in
    let none' : (k : ℕ) → k < w.script.nodes → is_full w.script w.limit w.run k ≡ false =
    λ k below. c.loop-node.invariant k (omega (arith, below, c.loop-node-test.false, c.nodes-node-end.ensures.nodes, nodes)) in
    subst (λ (w : WorldData). ((k : ℕ) → k < w.script.nodes → is_full w.script w.limit w.run k ≡ false) → (q : ℕ) (step : Step) → IsTrue (is_enabled w.script (world_of w) q step) → moves_of q w.run < w.limit)
    c.self.view_is (room_left s.script s.limit s.moves.items s.network.run.entries c.self.invariant.holds.is_script c.self.invariant.counted) none' q step e
