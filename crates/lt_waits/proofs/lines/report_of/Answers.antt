use Rattle.std.proofs.Common.{rules, ◌≡◌, []}
use Rattle.lt_waits.specs.Serves.{graph_of}
use Rattle.lt_waits.proofs.SoFar.{all_written}
use Rattle.lt_waits.proofs.lines.report_of.Goals as goal

pub returns : goal.returns
returns c = λ told agrees.
    let none : c.new-out.result.items ≡ [] = search rules in
    all_written c.args.script.now c.args.graph.now.clients _ (graph_of c.args.graph.now) told c.new-out.result.items c.push_waits.new.out.items c.push_last.new.out.items
    c.requires none c.in_ok-push_waits.ensures c.in_ok-push_last.ensures agrees
