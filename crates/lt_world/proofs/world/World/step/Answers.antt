use Rattle.std.proofs.Common.{◌<◌, List, sym, subst, IsTrue}
use Rattle.lt_spec.specs.World.{Logged, is_enabled, world_after, moves_of}
use Rattle.lt_world.specs.Fields.{WorldData, world_of, AreCounted, AreAtMost, AreTurns}
use Rattle.lt_world.proofs.TurnMoves.{few_moves, others_stand}
use Rattle.lt_world.proofs.Taking.{Moved, stands_moved}
use Rattle.lt_world.proofs.world.World.step.Goals as goal

pub step-requires-clause-few : goal.step-requires-clause-few
step-requires-clause-few c =
    let s = c.self.inside in
    few_moves s.script s.limit s.moves.items s.network.run.entries c.self.invariant.holds.is_script c.self.invariant.counted

pub invariant_of-self : goal.invariant_of-self
invariant_of-self c =
    let s = c.self.inside in
    let same = sym c.in_err-step.ensures.err in
    record {
      holds = c.step.ensures.holds;
      counted = subst (AreCounted s.script s.limit s.moves.items) same c.self.invariant.counted;
      at_most = subst (AreAtMost s.script s.most) same c.self.invariant.at_most;
      acts = subst (λ (r : List Logged). AreTurns s.script s.turns (world_after s.script r)) same c.self.invariant.acts;
    }

pub note_turns-requires-clause-others : goal.note_turns-requires-clause-others
note_turns-requires-clause-others c =
    let s = c.self.inside in
    let q = c.args.choice.node in
    let holds = c.self.invariant.holds in
    others_stand s.script s.network.run.entries c.step.new.self.run.entries q c.args.choice.step s.turns holds.is_script holds.is_run
    (subst (λ (w : WorldData). IsTrue (is_enabled w.script (world_of w) q c.args.choice.step)) (sym c.self.view_is) c.requires.enabled)
    (few_moves s.script s.limit s.moves.items s.network.run.entries holds.is_script c.self.invariant.counted)
    c.self.invariant.acts c.in_ok-step.ensures.ok

pub invariant_of-self-2 : goal.invariant_of-self-2
invariant_of-self-2 c =
    let s = c.self.inside in
    let n = c.step.new.self in
    let q = c.args.choice.node in
    let step = c.args.choice.step in
    let moved : Moved s.script s.limit s.most c.count_move.new.most s.moves.items c.count_move.new.moves.items s.network.run.entries n.run.entries q step = record {
      counted = c.self.invariant.counted;
      at_most = c.self.invariant.at_most;
      below = subst (λ (w : WorldData). moves_of q w.run < w.limit) (sym c.self.view_is) c.requires.room;
      enabled = subst (λ (w : WorldData). IsTrue (is_enabled w.script (world_of w) q step)) (sym c.self.view_is) c.requires.enabled;
      counts = c.count_move.ensures.moves;
      own = c.count_move.ensures.own;
      more = c.count_move.ensures.most;
      longer = c.in_ok-step.ensures.ok;
    } in
    stands_moved s.script s.limit s.most c.count_move.new.most n.nodes.items n.inboxes s.moves.items c.count_move.new.moves.items c.note_turns.new.turns n.out
    s.network.run.entries n.run.entries q step moved c.step.ensures.holds c.note_turns.ensures
