use Rattle.std.proofs.Common.{◌≡◌, ◌∙◌, rules, subst, sym, ap}
use Rattle.lt_modes.specs.Script.{ScriptData}
use Rattle.lt_spec.specs.Script.{IsShort}
use Rattle.lt_gen.specs.Generator.{script_of, clients_of, HasSizes}
use Rattle.lt_gen.proofs.MadeScript.{has_sizes, is_short}
use Rattle.lt_gen.proofs.making.script.Goals as goal

pub add_commands-requires-clause-clients : goal.add_commands-requires-clause-clients
add_commands-requires-clause-clients c = rw c.in_ok-add_clients.ensures (ap (λ nodes. clients_of nodes c.args.clients) (ap (λ (s : ScriptData). s.nodes) c.in_ok-add_sets.ensures ∙ ap (λ (s : ScriptData). s.nodes) c.in_ok-script.ensures))

pub returns-clause-sizes : goal.returns-clause-sizes
returns-clause-sizes c =
    let made : c.add_commands.new.script ≡ script_of c.args.version c.args.nodes c.args.clients c.args.commands c.args.seed = search rules in
    subst (λ (s : ScriptData). HasSizes c.args.nodes 4 c.args.clients c.args.commands s) (sym made) (has_sizes c.args.version c.args.nodes c.args.clients c.args.commands c.args.seed)

pub returns-clause-short : goal.returns-clause-short
returns-clause-short c =
    let made : c.add_commands.new.script ≡ script_of c.args.version c.args.nodes c.args.clients c.args.commands c.args.seed = search rules in
    subst IsShort (sym made) (is_short c.args.version c.args.nodes c.args.clients c.args.commands c.args.seed c.requires)
