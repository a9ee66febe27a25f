use Rattle.std.proofs.Common.{◌≡◌, [], List, ℕ, Contains, sym, subst, arith, take}
use Rattle.std.proofs.lemmas.List.{take_all}
use Rattle.std.proofs.lemmas.List.Elements.{Contains-get_or}
use Rattle.lt_waits.specs.Serves.{graph_of}
use Rattle.lt_waits.proofs.Searching.{then_reached, then_done}
use Rattle.lt_waits.proofs.search.reach.Goals as goal

pub loop-client-preserved : goal.loop-client-preserved
loop-client-preserved c =
    let n = c.args.waiters.now.clients in
    let graph = graph_of c.args.waiters.now in
    let those = c.args.those.now in
    let found = c.loop-client.found.items in
    let now = c.reach_one.new.found.items in
    record {
      reached =
          then_reached n graph those c.args.steps [] found now c.args.search.now c.loop-client.search c.reach_one.new.search _ c.loop-client.invariant.reached
          c.in_ok-reach_one.ensures.reached c.requires.steps (Contains-get_or those c.loop-client.client-index _ c.loop-client-test.true);
      done =
          then_done n graph those c.args.steps c.loop-client.client-index _ found now c.loop-client.search c.reach_one.new.search c.loop-client-test.true
          c.loop-client.invariant.done c.in_ok-reach_one.ensures.reached c.in_ok-reach_one.ensures.done;
    }

pub returns-clause-done : goal.returns-clause-done
returns-clause-done c = λ client other h e f.
    let all : take c.loop-client.client-index c.args.those.now ≡ c.args.those.now = take_all c.loop-client.client-index c.args.those.now (omega arith) in
    c.loop-client.invariant.done client other h e (subst (λ (l : List ℕ). Contains l other) (sym all) f)
