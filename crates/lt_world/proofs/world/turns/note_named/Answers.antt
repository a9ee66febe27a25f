use Rattle.std.proofs.Common.{◌∙◌, ◌+◌, ℕ, List, Option, length, sym, ap, subst, arith}
use Rattle.lt_spec.specs.World.{World, line_client}
use Rattle.lt_world.specs.Fields.{world_in, OthersStand, other_named}
use Rattle.lt_world.proofs.TurnOrder.{with_turn_count, line_noted}
use Rattle.lt_world.proofs.world.turns.note_named.Goals as goal

pub loop-line-preserved : goal.loop-line-preserved
loop-line-preserved c =
    let l = c.loop-line in
    let script = c.args.script.now in
    let w : World = world_in script c.args.network.now in
    let lines = c.events-lines.result.now in
    record {
      count = ap length c.note_line.ensures ∙ (with_turn_count script w (other_named c.args.step (line_client c.line-item.result)) l.turns ∙ l.invariant.count);
      others = subst (λ (turns : List (Option ℕ)). OthersStand script turns w c.args.step lines (l.line-index + 1)) (sym c.note_line.ensures)
          (line_noted script w c.args.step lines l.line-index c.line-item.result l.turns l.invariant.count (omega arith) c.line-item.is l.invariant.others);
    }
