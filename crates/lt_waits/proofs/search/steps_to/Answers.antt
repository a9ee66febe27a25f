use Rattle.std.proofs.Common.{◌<◌, ◌+◌, [], ℕ, List, All, length, sym, subst, arith}
use Rattle.std.proofs.lemmas.Grind.{common_steps}
use Rattle.lt_lists.proofs.Members.{all_of}
use Rattle.lt_waits.specs.Search.{Reaches, IsSearched}
use Rattle.lt_waits.specs.Serves.{graph_of}
use Rattle.lt_waits.proofs.Rounds.{first_round, next_round}
use Rattle.lt_waits.proofs.search.steps_to.Goals as goal

pub loop-alloc-init : goal.loop-alloc-init
loop-alloc-init c =
    first_round c.args.waiters.now.clients (graph_of c.args.waiters.now) c.args.goal c.in_ok-layer.layer.items c.in_ok-search.search c.reach.new.search
    c.requires (λ client h. c.in_ok-search.ensures.none client (omega (arith, h, c.clients.ensures))) c.in_ok-layer.ensures.reached c.in_ok-layer.ensures.done

pub reach-requires-in-loop-alloc-clause-those : goal.reach-requires-in-loop-alloc-clause-those
reach-requires-in-loop-alloc-clause-those c =
    let n = c.args.waiters.now.clients in
    subst (λ (l : List ℕ). All (λ x. x < n) l) (sym c.deref.ensures.value)
    (all_of (λ x. x < n) c.loop-alloc.layer.items (λ x f. (c.loop-alloc.invariant.at x f).0))

pub loop-alloc-preserved : goal.loop-alloc-preserved
loop-alloc-preserved c =
    let n = c.args.waiters.now.clients in
    let graph = graph_of c.args.waiters.now in
    let layer = c.loop-alloc.layer.items in
    let some : 0 < length layer = grind (arith, common_steps) in
    let reached : Reaches n graph layer (c.loop-alloc.steps + 1) [] c.in_ok-layer-2.layer.items c.loop-alloc.search c.reach-in-loop-alloc.new.search =
    subst (λ (l : List ℕ). Reaches n graph l (c.loop-alloc.steps + 1) [] c.in_ok-layer-2.layer.items c.loop-alloc.search c.reach-in-loop-alloc.new.search)
    c.deref.ensures.value c.in_ok-layer-2.ensures.reached in
    let done : IsSearched n graph layer c.reach-in-loop-alloc.new.search =
    subst (λ (l : List ℕ). IsSearched n graph l c.reach-in-loop-alloc.new.search) c.deref.ensures.value c.in_ok-layer-2.ensures.done in
    next_round n graph c.args.goal c.loop-alloc.steps layer c.in_ok-layer-2.layer.items c.loop-alloc.search c.reach-in-loop-alloc.new.search
    c.loop-alloc.invariant some reached done
