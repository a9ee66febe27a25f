use Rattle.std.proofs.Common.{refl, arith}
use Rattle.lt_waits.specs.Serves.{graph_of}
use Rattle.lt_waits.proofs.StepRings.{no_shorter}
use Rattle.lt_waits.proofs.shortest.ring_through.Goals as goal

pub returns-then-steps-eq0-clause-least : goal.returns-then-steps-eq0-clause-least
returns-then-steps-eq0-clause-least c = λ rest below ring.
    let few = no_shorter c.args.waiters.now.clients (graph_of c.args.waiters.now) c.args.start c.in_ok-search.search c.in_ok-search.ensures c.args.start rest ring below in
    absurd (omega (arith, few.0, c.steps-steps.ensures, c.if-steps-eq0.true))

pub returns-clause-least : goal.returns-clause-least
returns-clause-least c = λ rest below ring.
    let few = no_shorter c.args.waiters.now.clients (graph_of c.args.waiters.now) c.args.start c.in_ok-search.search c.in_ok-search.ensures c.args.start rest ring below in
    (refl, omega (arith, few.1, c.steps-steps.ensures, c.in_ok-ring.ensures.long))
