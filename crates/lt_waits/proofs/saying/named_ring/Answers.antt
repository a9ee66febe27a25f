use Rattle.std.proofs.Common.{◌∙◌, ℕ, is_some, sym, subst, IfSome, IsTrue, ◌↔◌}
use Rattle.lt_waits.specs.Serves.{graph_of}
use Rattle.lt_waits.specs.Shortest.{HasRing, IsRingOf, IsShortest}
use Rattle.lt_waits.proofs.Naming.{some_by_locks, named_by_locks, named_by_any}
use Rattle.lt_waits.proofs.saying.named_ring.Goals as goal

pub returns-then-is_some-clause-some : goal.returns-then-is_some-clause-some
returns-then-is_some-clause-some c =
    let n = c.args.graph.now.clients in
    let locks = graph_of c.args.locks.now in
    let found = c.in_ok-by_locks.by_locks in
    some_by_locks n locks (graph_of c.args.graph.now) found c.requires.part (sym c.is_some.ensures ∙ c.if-is_some.true)
    (subst (λ (m : ℕ). IfSome found (λ ring. IsRingOf m locks ring.items)) c.requires.same c.in_ok-by_locks.ensures.ring)

pub returns-then-is_some-clause-named : goal.returns-then-is_some-clause-named
returns-then-is_some-clause-named c =
    let n = c.args.graph.now.clients in
    let locks = graph_of c.args.locks.now in
    let found = c.in_ok-by_locks.by_locks in
    named_by_locks n locks (graph_of c.args.graph.now) found c.requires.part
    (subst (λ (m : ℕ). IfSome found (λ ring. IsRingOf m locks ring.items)) c.requires.same c.in_ok-by_locks.ensures.ring)
    (subst (λ (m : ℕ). IfSome found (λ ring. IsShortest m locks ring.items)) c.requires.same c.in_ok-by_locks.ensures.shortest)

pub returns-clause-named : goal.returns-clause-named
returns-clause-named c =
    let n = c.args.graph.now.clients in
    let locks = graph_of c.args.locks.now in
    let none = c.in_ok-by_locks.by_locks in
    named_by_any n locks (graph_of c.args.graph.now) none c.in_ok-found.found (sym c.is_some.ensures ∙ c.if-is_some.false)
    (subst (λ (m : ℕ). IsTrue (is_some none) ↔ HasRing m locks) c.requires.same c.in_ok-by_locks.ensures.found)
    c.in_ok-found.ensures.ring c.in_ok-found.ensures.shortest
