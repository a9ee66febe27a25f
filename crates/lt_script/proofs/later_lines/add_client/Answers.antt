use Rattle.std.proofs.Common.{◌≡◌, ◌∙◌, ◌<◌, ℕ, Option, unwrap_or, sym, ap, subst, arith}
use Rattle.lt_spec.specs.declared.limits.TheConstants.{MAX_CLIENTS_OF_NODE}
use Rattle.lt_spec.specs.Script.{load_of}
use Rattle.lt_text.specs.Number.{number}
use Rattle.lt_script.proofs.LineLemmas.{client_clean}
use Rattle.lt_script.proofs.later_lines.add_client.Goals as goal

pub prove-unreachable-requires : goal.prove-unreachable-requires
prove-unreachable-requires c =
    let below = (client_clean c.args.script.now c.args.name.now c.args.node.now c.requires).below in
    let node : c.unwrap_or-node.result ≡ unwrap_or (number c.args.node.now) 0 = c.unwrap_or-node.ensures ∙ ap (λ (o : Option ℕ). unwrap_or o 0) c.number.ensures in
    omega (arith, below, node, c.if-prove.true, c.from.ensures, c.nodes.ensures.nodes)

pub add_client-requires-clause-name : goal.add_client-requires-clause-name
add_client-requires-clause-name c = (client_clean c.args.script.now c.args.name.now c.args.node.now c.requires).named

pub add_client-requires-clause-new : goal.add_client-requires-clause-new
add_client-requires-clause-new c = (client_clean c.args.script.now c.args.name.now c.args.node.now c.requires).new

pub add_client-requires-clause-room : goal.add_client-requires-clause-room
add_client-requires-clause-room c = (client_clean c.args.script.now c.args.name.now c.args.node.now c.requires).room

pub add_client-requires-clause-load : goal.add_client-requires-clause-load
add_client-requires-clause-load c =
    let node : c.unwrap_or-node.result ≡ unwrap_or (number c.args.node.now) 0 = c.unwrap_or-node.ensures ∙ ap (λ (o : Option ℕ). unwrap_or o 0) c.number.ensures in
    subst (λ (n : ℕ). load_of c.args.script.now.clients n < MAX_CLIENTS_OF_NODE) (sym node) (client_clean c.args.script.now c.args.name.now c.args.node.now c.requires).load
