use Rattle.std.proofs.Common.{◌<◌, ℕ, IsTrue}
use Rattle.lt_spec.specs.Ordered.{is_orderly}
use Rattle.lt_order.proofs.order.first_bad.Given as goal

-- the clients so far are in order
abbrev pub invariant-loop-client : goal.invariant-loop-client
invariant-loop-client l = (earlier : ℕ) → earlier < l.client → IsTrue (is_orderly l.script earlier)
