use Rattle.std.proofs.Common.{rules, ◌≡◌, ◌+◌, ◌++◌, ◌∷◌, [], ℕ, List, sym, subst}
use Rattle.lt_waits.specs.Serves.{graph_of}
use Rattle.lt_waits.proofs.StepRings.{IsWalk, walk_begins, walk_on}
use Rattle.lt_waits.proofs.shortest.ring_from.Goals as goal

pub loop-step-init : goal.loop-step-init
loop-step-init c =
    let n = c.args.waiters.now.clients in
    let graph = graph_of c.args.waiters.now in
    subst (λ (l : List ℕ). IsWalk n graph c.args.start c.args.search.now c.args.steps 0 l c.args.start) (sym c.new-ring.ensures.items)
    (walk_begins n graph c.args.start c.args.search.now c.requires.found c.args.steps c.requires.start c.requires.steps.0 c.requires.steps.1)

pub loop-step-preserved : goal.loop-step-preserved
loop-step-preserved c =
    let n = c.args.waiters.now.clients in
    let graph = graph_of c.args.waiters.now in
    let pushed : c.push.new.self.items ≡ c.loop-step.ring.items ++ c.loop-step.client ∷ [] = search rules in
    subst (IsWalk n graph c.args.start c.args.search.now c.args.steps (c.loop-step._step + 1) c.push.new.self.items) (sym c.next-client.ensures)
    (walk_on n graph c.args.start c.args.search.now c.requires.found c.args.steps c.loop-step._step c.loop-step.ring.items c.push.new.self.items
    c.loop-step.client c.loop-step.invariant c.loop-step-test.true pushed)
