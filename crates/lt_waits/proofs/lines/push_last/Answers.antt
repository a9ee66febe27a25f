use Rattle.std.proofs.Common.{arith, ◌≡◌, length}
use Rattle.std.proofs.lemmas.Grind.{common_steps}
use Rattle.std.proofs.lemmas.List.{nil_from_length}
use Rattle.std.proofs.lemmas.Result.{on_ok_weaker}
use Rattle.lt_waits.specs.Serves.{graph_of}
use Rattle.lt_waits.proofs.SoFar.{no_ring_written}
use Rattle.lt_waits.proofs.lines.push_last.Goals as goal

pub returns-then-is_empty : goal.returns-then-is_empty
returns-then-is_empty c =
    let empty : length c.in_ok-members.members.items ≡ 0 = grind (arith, common_steps) in
    on_ok_weaker c.push_ends.result
    (λ last. no_ring_written c.args.script.now c.args.graph.now.clients (graph_of c.args.graph.now) c.in_ok-members.members.items c.args.out.now.items
    c.push_no_cycle.new.out.items c.push_ends.new.out.items c.in_ok-members.ensures.members (nil_from_length c.in_ok-members.members.items empty)
    (c.in_ok-push_no_cycle.ensures c.args.script.now) last)
    c.push_ends.ensures
