use Rattle.std.proofs.Common.{sym, ◌∙◌, arith}
use Rattle.lt_spec.proofs.FirstBad.{first_bad_is_exact}
use Rattle.lt_order.proofs.Orders.{first_is}
use Rattle.lt_order.proofs.order.first_bad.Goals as goal

pub returns-then-not-branch-clause-first : goal.returns-then-not-branch-clause-first
returns-then-not-branch-clause-first c =
    sym (first_is c.args.script.now c.loop-client.client (omega (arith, c.loop-client-test.true, c.clients-client-end.ensures.clients)) (sym c.in_ok-is_orderly.ensures ∙ c.if-not-branch.true)
    c.loop-client.invariant)

pub returns-clause-first : goal.returns-clause-first
returns-clause-first c =
    sym ((first_bad_is_exact c.args.script.now).0.1 (λ client inside. c.loop-client.invariant client (omega (arith, inside, c.loop-client-test.false, c.clients-client-end.ensures.clients))))
