use Rattle.std.proofs.Common.{rules, ◌≡◌, ◌<◌, ◌+◌, ◌++◌, ◌∷◌, [], ℕ, refl, ap, arith, slice_set}
use Rattle.std.specs.Vec.{with_item}
use Rattle.lt_lists.proofs.Members.{contains_first}
use Rattle.lt_waits.specs.Search.{unreached_in}
use Rattle.lt_waits.specs.Serves.{graph_of}
use Rattle.lt_waits.specs.declared.search.Search.{Search}
use Rattle.lt_waits.proofs.Searching.{fewer_left, one_found}
use Rattle.lt_waits.proofs.search.reach_one.Goals as goal
use Rattle.lt_waits.proofs.search.reach_one.Goals.{In_ok-push}

-- the search with one client more
abbrev found_more : In_ok-push → Search
found_more c = record {
  steps = with_item c.loop-other.search.steps c.from.result c.args.steps;
  next = with_item c.loop-other.search.next c.from-in-Some.result c.args.client;
  left = c.remove.new.self;
}

pub loop-other-smaller : goal.loop-other-smaller
loop-other-smaller c =
    let n = c.args.waiters.now.clients in
    let one : unreached_in n c.loop-other.search ≡ unreached_in n (found_more c) + 1 =
    fewer_left n (graph_of c.args.waiters.now) c.args.steps c.loop-other.search (found_more c) c.in-Some.other c.loop-other.invariant.search c.requires.steps
    c.in-Some.ensures.within c.in-Some.ensures.left (ap (λ (i : ℕ). slice_set c.loop-other.search.steps.items i c.args.steps) c.from.ensures) in
    let less : unreached_in n (found_more c) < unreached_in n c.loop-other.search = omega (arith, one) in
    less

pub loop-other-preserved : goal.loop-other-preserved
loop-other-preserved c =
    let pushed : c.push.new.self.items ≡ c.loop-other.found.items ++ c.in-Some.other ∷ [] = search rules in
    one_found c.args.waiters.now.clients (graph_of c.args.waiters.now) (c.args.client ∷ []) c.args.steps c.args.found.now.items c.loop-other.found.items
    c.push.new.self.items c.args.search.now c.loop-other.search (found_more c) c.args.client c.in-Some.other
    c.loop-other.invariant c.requires.steps c.in-Some.ensures.within c.in-Some.ensures.left c.in-Some.ensures.waits (contains_first c.args.client c.args.client [] refl)
    (ap (λ (i : ℕ). slice_set c.loop-other.search.steps.items i c.args.steps) c.from.ensures)
    (ap (λ (i : ℕ). slice_set c.loop-other.search.next.items i c.args.client) c.from-in-Some.ensures)
    c.remove.ensures.words c.remove.ensures.own c.remove.ensures.others pushed
