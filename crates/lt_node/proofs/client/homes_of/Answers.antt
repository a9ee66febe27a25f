use Rattle.std.proofs.Common.{◌∙◌, List, ap, arith, map, take_all}
use Rattle.lt_modes.specs.Script.{ClientData}
use Rattle.lt_node.proofs.RequestLemmas.{home_more, homes_met}
use Rattle.lt_node.proofs.client.homes_of.Goals as goal

pub push_reserved-requires : goal.push_reserved-requires
push_reserved-requires c =
    let met = homes_met c.args.script.now.clients c.loop-client.client c.loop-client.homes.items c.loop-client.invariant.homes in
    omega (arith, c.loop-client-test.true, c.clients-client-end.ensures.clients, met, c.loop-client.invariant.room)

pub loop-client-preserved : goal.loop-client-preserved
loop-client-preserved c = record {
  homes = c.push_reserved.ensures.items
      ∙ home_more c.args.script.now.clients c.loop-client.client c.home.result c.loop-client.homes.items (omega (arith, c.loop-client-test.true, c.clients-client-end.ensures.clients)) c.home.ensures c.loop-client.invariant.homes;
  room = omega (arith, c.loop-client.invariant.room, c.push_reserved.ensures.capacity);
}

pub returns-clause-homes : goal.returns-clause-homes
returns-clause-homes c =
    c.loop-client.invariant.homes
    ∙ ap (λ (clients : List ClientData). map (λ (client : ClientData). client.node) clients) (take_all c.loop-client.client c.args.script.now.clients (omega (arith, c.loop-client-test.false, c.clients-client-end.ensures.clients)))
