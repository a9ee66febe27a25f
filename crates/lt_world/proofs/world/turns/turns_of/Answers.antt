use Rattle.std.proofs.Common.{◌≡◌, ◌<◌, ◌+◌, ◌∙◌, ℕ, List, Option, None, length, ap, sym, subst, arith, length-set, slice_index_or, slice_set}
use Rattle.lt_spec.specs.World.{World}
use Rattle.lt_world.specs.Fields.{turn_of, world_in}
use Rattle.lt_world.proofs.TurnOrder.{client_noted}
use Rattle.lt_world.proofs.world.turns.turns_of.Goals as goal

pub loop-client-preserved : goal.loop-client-preserved
loop-client-preserved c =
    let l = c.loop-client in
    let script = c.args.script.now in
    let w : World = world_in script c.args.network.now in
    let set : c.set.new.self ≡ slice_set l.turns l.client (turn_of script w l.client) = c.set.ensures ∙ ap (slice_set l.turns l.client) c.turn_of.ensures in
    record {
      count = ap length set ∙ (length-set l.turns l.client (turn_of script w l.client) ∙ l.invariant.count);
      noted = subst (λ (turns : List (Option ℕ)). (k : ℕ) → k < l.client + 1 → slice_index_or turns k None ≡ turn_of script w k) (sym set)
          (client_noted script w l.client l.turns l.invariant.count (omega (arith, l.auto.client-end, c.loop-client-test.true, c.clients.ensures.clients, c.clients-client-end.ensures.clients)) l.invariant.noted);
    }
