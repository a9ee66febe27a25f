use Rattle.std.proofs.Common.{◌≡◌, ◌∙◌, ◌++◌, List, ap, sym, length, arith}
use Rattle.lt_spec.specs.Holdings.{waits_behind_void}
use Rattle.lt_world.specs.Fields.{world_of}
use Rattle.lt_waits.specs.declared.edge.Edge.{Edge}
use Rattle.lt_waits.specs.Edges.{pairs_with}
use Rattle.lt_waits.proofs.Pairs.{pairs_so_far, pairs_so_far-push}
use Rattle.lt_waits.proofs.voids.void_pairs.Goals as goal

pub loop-client-preserved : goal.loop-client-preserved
loop-client-preserved c =
    let n = length c.args.script.now.clients in
    let graph = waits_behind_void c.args.script.now (world_of c.args.world.now) in
    record {
      pairs = c.in_ok-push_voids_of.ensures.pairs
          ∙ ap (λ (l : List Edge). l ++ pairs_with graph c.loop-client.client n) c.loop-client.invariant.pairs
          ∙ sym (pairs_so_far-push n graph c.loop-client.client);
      within = c.in_ok-push_voids_of.ensures.within;
    }

pub returns-clause-pairs : goal.returns-clause-pairs
returns-clause-pairs c =
    let n = length c.args.script.now.clients in
    let graph = waits_behind_void c.args.script.now (world_of c.args.world.now) in
    let all : c.loop-client.client ≡ n = omega arith in
    c.loop-client.invariant.pairs ∙ ap (pairs_so_far n graph) all
