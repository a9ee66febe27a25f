use Rattle.lt_modes.specs.Script.{ClientData}
use Rattle.lt_script.specs.Printing.{ended_line, client_words}
use Rattle.lt_script.proofs.PrintedSoFar.{printed_more, printed_all}
use Rattle.lt_script.proofs.printing.push_clients.Goals as goal

pub loop-client-preserved : goal.loop-client-preserved
loop-client-preserved c =
    printed_more (λ (x : ClientData). ended_line (client_words x)) c.args.out.now.items c.loop-client.out.items c.push_client.new.out.items c.args.script.now.clients
    c.client_declarations-client-items.result.now c.loop-client.client-index c.client-item.result c.client-item.result c.client_declarations-client-items.ensures c.loop-client-test.true
    c.client-item.is c.loop-client.invariant c.in_ok-push_client.ensures

pub returns : goal.returns
returns c =
    printed_all (λ (x : ClientData). ended_line (client_words x)) c.args.out.now.items c.loop-client.out.items c.args.script.now.clients c.client_declarations-client-items.result.now
    c.loop-client.client-index c.client_declarations-client-items.ensures c.loop-client-test.false c.loop-client.invariant
