use Rattle.std.proofs.Common.{rules, ◌≡◌, ◌<◌, ◌++◌, [], ◌∷◌, ℕ, List, Some, None, length, drop, arith, ap, sym, subst, ◌∙◌, All, ◌==◌, position}
use Rattle.std.proofs.lemmas.List.{length_push}
use Rattle.std.proofs.lemmas.Result.{IfOk-weaker}
use Rattle.lt_waits.specs.Serves.{graph_of}
use Rattle.lt_waits.proofs.Walks.{IsOnWalk, begins, is_short, closes, goes_on, breaks}
use Rattle.lt_waits.proofs.rings.ring_of.Goals as goal

pub loop-next-init : goal.loop-next-init
loop-next-init c =
    let none : c.new-walk.result.items ≡ [] = search rules in
    begins c.args.graph.now.clients (graph_of c.args.graph.now) c.args.clients.now c.new-walk.result.items c.first_of-next.result none c.first_of-next.ensures.first (c.first_of-next.ensures.within c.args.graph.now.clients c.requires)

pub returns-in-Some-first_coming : goal.returns-in-Some-first_coming
returns-in-Some-first_coming c =
    let n = c.args.graph.now.clients in
    let graph = graph_of c.args.graph.now in
    let walk = c.loop-next.walk.items in
    let walks = subst (IsOnWalk n graph c.args.clients.now walk) c.in-Some.is c.loop-next.invariant in
    let found : position (λ d. d == c.in-Some.client) walk ≡ Some c.in-Some-first_coming.first =
    sym (c.in-Some-first_coming.ensures.place ∙ ap (position (λ d. d == c.in-Some.client)) c.deref.ensures.value) in
    record {
      ring = IfOk-weaker c.part_from.result _ _
          (λ part h. h ∙ ap (drop c.in-Some-first_coming.first) c.deref-in-Some-first_coming.ensures.value ∙ closes n graph c.args.clients.now walk c.in-Some.client c.in-Some-first_coming.first walks found)
          c.part_from.ensures.part;
      within = c.part_from.ensures.within n (subst (λ (w : List ℕ). All (λ x. x < n) w) (sym c.deref-in-Some-first_coming.ensures.value) walks.below);
    }

pub loop-next-smaller : goal.loop-next-smaller
loop-next-smaller c =
    let n = c.args.graph.now.clients in
    let walk = c.loop-next.walk.items in
    let short = is_short n (graph_of c.args.graph.now) c.args.clients.now walk c.loop-next.next c.loop-next.invariant in
    let pushed : c.push.new.self.items ≡ walk ++ c.in-Some.client ∷ [] = search rules in
    omega (arith, short, ap length pushed, length_push walk c.in-Some.client)

pub loop-next-preserved : goal.loop-next-preserved
loop-next-preserved c =
    let n = c.args.graph.now.clients in
    let graph = graph_of c.args.graph.now in
    let walk = c.loop-next.walk.items in
    let walks = subst (IsOnWalk n graph c.args.clients.now walk) c.in-Some.is c.loop-next.invariant in
    let pushed : c.push.new.self.items ≡ walk ++ c.in-Some.client ∷ [] = search rules in
    let never : position (λ d. d == c.in-Some.client) walk ≡ None =
    sym (c.in_default-first_coming.ensures.place ∙ ap (position (λ d. d == c.in-Some.client)) c.deref.ensures.value) in
    goes_on n graph c.args.clients.now walk c.push.new.self.items c.in-Some.client c.next_among-next.result walks never pushed c.next_among-next.ensures.next c.next_among-next.ensures.within

pub returns : goal.returns
returns c =
    let n = c.args.graph.now.clients in
    let graph = graph_of c.args.graph.now in
    let walk = c.loop-next.walk.items in
    let stops : c.loop-next.next ≡ None = search rules in
    let walks = subst (IsOnWalk n graph c.args.clients.now walk) stops c.loop-next.invariant in
    let none : c.new.result.items ≡ [] = search rules in
    record { ring = none ∙ breaks n graph c.args.clients.now walk walks; within = subst (λ (w : List ℕ). All (λ x. x < n) w) (sym none) (λ k d h. absurd (omega (arith, h))) }
