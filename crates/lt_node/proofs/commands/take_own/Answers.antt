use Rattle.std.proofs.Common.{List, ℕ, arith, subst, sym, ◌+◌, ◌<◌}
use Rattle.lt_node.specs.Clients.{Progress}
use Rattle.lt_node.proofs.CommandLemmas.{AreTaken, taken_more, taken_none}
use Rattle.lt_node.proofs.commands.take_own.Goals as goal

pub push_reserved-requires : goal.push_reserved-requires
push_reserved-requires c = omega (arith, c.loop-client-test.true, c.clients-client-end.ensures.clients, c.loop-client.invariant.taken.made, c.loop-client.invariant.room)

pub loop-client-preserved : goal.loop-client-preserved
loop-client-preserved c = record {
  taken = subst (λ (clients : List Progress). AreTaken c.args.script.now c.args.node (c.loop-client.client + 1) c.take_next.new.lists.items clients) (sym c.push_reserved.ensures.items)
      (taken_more c.args.script.now c.args.node c.loop-client.client c.loop-client.lists.items c.loop-client.clients.items _ c.take_next.new.lists.items c.loop-client.invariant.taken
      (omega (arith, c.loop-client-test.true, c.clients-client-end.ensures.clients)) c.in_ok-next.ensures.taken c.in_ok-next.ensures.left);
  room = omega (arith, c.loop-client.invariant.room, c.push_reserved.ensures.capacity);
}

pub loop-client-init : goal.loop-client-init
loop-client-init c = record {
  taken = taken_none c.args.script.now c.args.node c.args.lists.now.items c.in_ok-clients.clients.items c.in_ok-clients.ensures.items c.requires;
  room = omega (arith, c.in_ok-clients.ensures.capacity);
}

pub take_next-requires-clause-client : goal.take_next-requires-clause-client
take_next-requires-clause-client c = subst (λ (n : ℕ). c.loop-client.client < n) c.clients-client-end.ensures.clients c.loop-client-test.true

pub take_next-requires-clause-count : goal.take_next-requires-clause-count
take_next-requires-clause-count c = c.loop-client.invariant.taken.count

pub returns-clause-each : goal.returns-clause-each
returns-clause-each c = c.loop-client.invariant.taken.each

pub returns-clause-left : goal.returns-clause-left
returns-clause-left c = record { count = c.loop-client.invariant.taken.count; each = c.loop-client.invariant.taken.left }
