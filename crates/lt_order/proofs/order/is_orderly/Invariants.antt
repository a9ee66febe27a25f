use Rattle.std.proofs.Common.{◌≡◌}
use Rattle.lt_spec.specs.Ordered.{is_orderly}
use Rattle.lt_order.proofs.Orders.{orderly_at}
use Rattle.lt_order.proofs.order.is_orderly.Given as goal

-- the client is in order exactly if it is so from the requests that are left on
abbrev pub invariant-loop-request : goal.invariant-loop-request
invariant-loop-request l = orderly_at l.script l.client l.locks.items l.request-items l.request-index ≡ is_orderly l.script l.client
