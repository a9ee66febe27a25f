use Rattle.lt_node.proofs.RequestLemmas.{all_added}
use Rattle.lt_node.proofs.client.clients_of.Goals as goal

pub returns-clause-each : goal.returns-clause-each
returns-clause-each c = all_added c.args.script.now c.args.node c.add_requests.new.clients.items c.in_ok-add_requests.ensures.each
