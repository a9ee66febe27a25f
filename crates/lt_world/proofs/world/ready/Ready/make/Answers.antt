use Rattle.std.proofs.Common.{◌≡◌, subst, IsTrue}
use Rattle.lt_modes.specs.declared.moves.Step.{Step}
use Rattle.lt_spec.specs.World.{is_enabled, world_after}
use Rattle.lt_world.specs.Fields.{run_with}
use Rattle.lt_world.proofs.TurnMoves.{others_stand}
use Rattle.lt_world.proofs.Taking.{Moved, stands_moved}
use Rattle.lt_world.proofs.world.ready.Ready.make.Goals as goal

pub note_turns-requires-clause-others : goal.note_turns-requires-clause-others
note_turns-requires-clause-others c =
    let s = c.self.inside.parts in
    let choice = c.self.inside.choice in
    let opened = c.self.invariant.reserved_for.opened in
    let longer = subst (λ (step : Step). c.make.new.self.run.entries ≡ run_with s.script s.network.run.entries choice.node step) c.self.invariant.step_is c.make.ensures.entries in
    let enabled = subst (λ (step : Step). IsTrue (is_enabled s.script (world_after s.script s.network.run.entries) choice.node step)) c.self.invariant.step_is opened.enabled in
    others_stand s.script s.network.run.entries c.make.new.self.run.entries choice.node choice.step s.turns opened.is_script opened.is_run enabled opened.few c.self.invariant.acts longer

pub whole-requires : goal.whole-requires
whole-requires c =
    let s = c.self.inside.parts in
    let n = c.make.new.self in
    let longer = subst (λ (step : Step). n.run.entries ≡ run_with s.script s.network.run.entries c.self.inside.choice.node step) c.self.invariant.step_is c.make.ensures.entries in
    let moved : Moved s.script s.limit s.most c.count_move.new.most s.moves.items c.count_move.new.moves.items s.network.run.entries n.run.entries c.self.inside.choice.node c.self.inside.choice.step = record {
      counted = c.self.invariant.counted;
      at_most = c.self.invariant.at_most;
      below = c.self.invariant.below;
      enabled = subst (λ (step : Step). IsTrue (is_enabled s.script (world_after s.script s.network.run.entries) c.self.inside.choice.node step)) c.self.invariant.step_is c.self.invariant.reserved_for.opened.enabled;
      counts = c.count_move.ensures.moves;
      own = c.count_move.ensures.own;
      more = c.count_move.ensures.most;
      longer = longer;
    } in
    stands_moved s.script s.limit s.most c.count_move.new.most n.nodes.items n.inboxes s.moves.items c.count_move.new.moves.items c.note_turns.new.turns n.out
    s.network.run.entries n.run.entries c.self.inside.choice.node c.self.inside.choice.step moved c.make.ensures.holds c.note_turns.ensures
