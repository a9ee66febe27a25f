use Rattle.std.proofs.Common.{◌≡◌, ◌<◌, ℕ, List, All, Ok, sym, ap, subst, refl, arith, ◌∙◌, length}
use Rattle.std.proofs.lemmas.Grind.{common_steps}
use Rattle.std.proofs.lemmas.Iterator.{items_from_collect, YieldsList-from_range}
use Rattle.lt_spec.specs.Rings.{numbers_below, still_waiting}
use Rattle.lt_waits.specs.Serves.{graph_of}
use Rattle.lt_waits.proofs.SoFar.{round_is_last, all_below}
use Rattle.lt_waits.proofs.rings.ring_set.Goals as goal

pub loop-round-init : goal.loop-round-init
loop-round-init c =
    let n = c.args.graph.now.clients in
    let is : c.in_ok-left.left.items ≡ numbers_below n = items_from_collect {E = ℕ} (Ok c.in_ok-left.left) c.in_ok-left.ensures.ran (YieldsList-from_range 0 c.clients.result n refl (omega (arith, c.clients.ensures))) in
    record { left = is; within = subst (λ (l : List ℕ). All (λ x. x < n) l) (sym is) (all_below n) }

pub returns-then-len-clause-members : goal.returns-then-len-clause-members
returns-then-len-clause-members c =
    let as_many : length c.in_ok-after.after.items ≡ length c.loop-round.left.items = grind (arith, common_steps) in
    round_is_last (graph_of c.args.graph.now) (numbers_below c.args.graph.now.clients) c.loop-round.left.items c.in_ok-after.after.items c.loop-round._round c.args.graph.now.clients
    (omega arith) c.loop-round.invariant.left (c.in_ok-after.ensures.left ∙ ap (still_waiting (graph_of c.args.graph.now)) c.deref.ensures.value) as_many
