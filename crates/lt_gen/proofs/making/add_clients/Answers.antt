use Rattle.std.proofs.Common.{◌∙◌, ap, refl, arith}
use Rattle.lt_modes.specs.Script.{ScriptData}
use Rattle.lt_gen.specs.Generator.{clients_of}
use Rattle.lt_gen.proofs.Generated.{name_made, name_is_new, clients_counted, one_client_more, load_fits}
use Rattle.lt_gen.proofs.making.add_clients.Goals as goal

pub loop-client-init : goal.loop-client-init
unfolding clients_of
loop-client-init c = record {
  nodes = c.from-nodes.ensures ∙ c.nodes.ensures.nodes;
  made = ap (λ clients. record c.args.script.now { clients = clients }) c.requires.none;
}

pub add_client-requires-clause-name : goal.add_client-requires-clause-name
add_client-requires-clause-name c = rw (c.deref.ensures.value, c.in_ok-name.ensures) (name_made c.loop-client.client (omega (arith, c.loop-client-test.true, c.requires.few)))

pub add_client-requires-clause-new : goal.add_client-requires-clause-new
add_client-requires-clause-new c = rw (c.deref.ensures.value, c.in_ok-name.ensures) (name_is_new c.loop-client.script c.loop-client.client (ap (λ (s : ScriptData). s.sets) c.loop-client.invariant.made ∙ c.requires.sets) (rw c.loop-client.invariant.made refl) (omega (arith, c.loop-client-test.true, c.requires.few)))

pub add_client-requires-clause-room : goal.add_client-requires-clause-room
add_client-requires-clause-room c = rw c.loop-client.invariant.made (omega (arith, clients_counted c.args.script.now.nodes c.loop-client.client, c.loop-client-test.true, c.requires.few))

pub add_client-requires-clause-load : goal.add_client-requires-clause-load
add_client-requires-clause-load c = rw (c.loop-client.invariant.made, c.loop-client.invariant.nodes) (load_fits c.args.script.now.nodes c.loop-client.client c.nodes.ensures.kept.some_node (omega (arith, c.loop-client-test.true, c.requires.on_nodes)))

pub loop-client-preserved : goal.loop-client-preserved
loop-client-preserved c = record {
  nodes = c.loop-client.invariant.nodes;
  made = c.in_ok-add_client.ensures.added ∙ rw (c.loop-client.invariant.made, c.deref.ensures.value, c.in_ok-name.ensures, c.loop-client.invariant.nodes) (ap (λ clients. record c.args.script.now { clients = clients }) (one_client_more c.args.script.now.nodes c.loop-client.client));
}
