use Rattle.std.proofs.Common.{◌≡◌, sym, ap, ◌∙◌}
use Rattle.lt_script.specs.Printing.{print_of}
use Rattle.lt_script.specs.Reading.{read_of}
use Rattle.lt_script.proofs.RoundTrips.{print_parts}
use Rattle.lt_script.proofs.RoundTrip.{read_printed}
use Rattle.lt_script.proofs.printing.print.Goals as goal

pub returns : goal.returns
returns c =
    let written : c.push_commands.new.out.items ≡ print_of c.args.script.now =
    rw (c.in_ok-push_commands.ensures, c.in_ok-push_clients.ensures, c.in_ok-push_sets.ensures, c.in_ok-push_nodes.ensures, c.in_ok-push_version.ensures, c.new-out.ensures.items, c.nodes.ensures.nodes, c.version.ensures.version)
    (sym (print_parts c.args.script.now)) in
    record { text = written; read_back = λ short. ap read_of written ∙ read_printed c.args.script.now c.nodes.ensures.kept short }
