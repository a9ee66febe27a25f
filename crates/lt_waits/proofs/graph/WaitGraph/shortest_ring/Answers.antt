use Rattle.std.proofs.Common.{◌≡◌, ℕ, ◌+◌, ◌≤◌, inl, inr, List, ◌∷◌, length, IfSome, IsTrue, is_some, Vec, Global, subst, arith}
use Rattle.std.proofs.lemmas.Bool.{cases_lt}
use Rattle.lt_spec.specs.Rings.{AreBelow, IsRing}
use Rattle.lt_waits.specs.Serves.{GraphData, graph_of}
use Rattle.lt_waits.specs.Shortest.{IsRingOf}
use Rattle.lt_waits.proofs.Least.{IsLeastOf, some_ring, ring_some, is_shortest}
use Rattle.lt_waits.proofs.graph.WaitGraph.shortest_ring.Goals as goal

pub loop-client-init : goal.loop-client-init
loop-client-init c = record { ring = tt; least = λ start rest h below ring. absurd (omega (arith, h)) }

pub loop-client-preserved : goal.loop-client-preserved
loop-client-preserved c =
    let n = c.args.self.now.clients in
    let graph = graph_of c.args.self.now in
    let found = c.in_ok-ring.ring in
    let ring = subst (λ (g : GraphData). IfSome found (λ ring. IsRingOf g.clients (graph_of g) ring.items)) c.in_ok-waiters.ensures c.in_ok-ring.ensures.ring in
    let least = subst
    (λ (g : GraphData). (rest : List ℕ) → AreBelow g.clients (c.loop-client.client ∷ rest) → IsRing (graph_of g) (c.loop-client.client ∷ rest)
    → IsTrue (is_some found) × IfSome found (λ ring. length ring.items ≤ length rest + 1)) c.in_ok-waiters.ensures c.in_ok-ring.ensures.least in
    record {
      ring = c.shorter-shortest.ensures.one n graph c.loop-client.invariant.ring ring;
      least = λ start rest h below closed. elim (cases_lt start c.loop-client.client) [
        | inl before ↦ let few = c.loop-client.invariant.least start rest before below closed in c.shorter-shortest.ensures.first (length rest + 1) few.0 few.1
        | inr last ↦
            let same : start ≡ c.loop-client.client = omega (arith, h, last) in
            let few = least rest (subst (λ (x : ℕ). AreBelow n (x ∷ rest)) same below) (subst (λ (x : ℕ). IsRing graph (x ∷ rest)) same closed) in
            c.shorter-shortest.ensures.second (length rest + 1) few.0 few.1
      ];
    }

pub returns-clause-found : goal.returns-clause-found
returns-clause-found c =
    let n = c.args.self.now.clients in
    let graph = graph_of c.args.self.now in
    let all : c.loop-client.client ≡ n = omega arith in
    let least = subst (λ (k : ℕ). IsLeastOf {R = Vec ℕ Global} (λ ring. ring.items) n graph k c.loop-client.shortest) all c.loop-client.invariant.least in (
      λ e. some_ring {R = Vec ℕ Global} (λ ring. ring.items) n graph c.loop-client.shortest e c.loop-client.invariant.ring,
      λ h. ring_some {R = Vec ℕ Global} (λ ring. ring.items) n graph c.loop-client.shortest least h,
    )

pub returns-clause-shortest : goal.returns-clause-shortest
returns-clause-shortest c =
    let n = c.args.self.now.clients in
    let graph = graph_of c.args.self.now in
    let all : c.loop-client.client ≡ n = omega arith in
    is_shortest {R = Vec ℕ Global} (λ ring. ring.items) n graph c.loop-client.shortest
    (subst (λ (k : ℕ). IsLeastOf {R = Vec ℕ Global} (λ ring. ring.items) n graph k c.loop-client.shortest) all c.loop-client.invariant.least)
