use Rattle.std.proofs.Common.{◌≡◌, ◌<◌, ℕ, arith, length, subst}
use Rattle.lt_node.specs.Clients.{AreOwn}
use Rattle.lt_node.proofs.OwnLemmas.{none_to_0}
use Rattle.lt_node.proofs.own.own_of.Goals as goal

pub loop-client-init : goal.loop-client-init
loop-client-init c = none_to_0 c.args.script.now.clients c.args.node c.in_ok-own.own.items c.in_ok-own.ensures.items

pub add_own-requires-clause-client : goal.add_own-requires-clause-client
add_own-requires-clause-client c =
    subst (λ (n : ℕ). c.loop-client.client < n) c.clients-client-end.ensures.clients c.loop-client-test.true

pub add_own-requires-clause-own : goal.add_own-requires-clause-own
add_own-requires-clause-own c = c.loop-client.invariant

pub loop-client-preserved : goal.loop-client-preserved
loop-client-preserved c = c.in_ok-add_own.ensures

pub returns : goal.returns
returns c =
    let all : c.loop-client.client ≡ length c.args.script.now.clients = omega (arith, c.loop-client-test.false, c.loop-client.auto.client-end, c.clients-client-end.ensures.clients) in
    subst (λ (n : ℕ). AreOwn c.args.script.now.clients c.args.node 0 n c.loop-client.own.items) all c.loop-client.invariant
