use Rattle.std.proofs.Common.{◌≡◌, ◌∙◌, ◌++◌, ◌∷◌, [], ◌<◌, ℕ, None, ap, subst, sym, rules, IsTrue}
use Rattle.lt_spec.specs.Script.{IsScript}
use Rattle.lt_spec.specs.World.{start, logged, is_enabled, full_node}
use Rattle.lt_spec.specs.FixedOrder.{count_turns}
use Rattle.lt_world.specs.Fields.{WorldData, world_of}
use Rattle.lt_serve.specs.declared.schedule.Schedule.{Schedule}
use Rattle.lt_threads.specs.Threads.{StaysWithin}
use Rattle.lt_serve.specs.Endings.{StopsInTime}
use Rattle.lt_serve.specs.Schedules.{IsAt, scheduled, AreInOrder}
use Rattle.lt_serve.proofs.Ordered.{schedule_after, one_more, schedule_more, picked}
use Rattle.lt_serve.proofs.Rooms.{room_left, may_move, stays_within, stays_in_time, less_room, mover_within}
use Rattle.lt_serve.proofs.simulation.make_moves.Goals as goal

pub step-requires-clause-room : goal.step-requires-clause-room
step-requires-clause-room c =
    let w = c.loop-schedule.world in
    let kept : IsScript w.script = subst IsScript (sym c.loop-schedule.invariant.script) c.requires.kept in
    let none : full_node w.script w.limit w.run ≡ None = search rules in
    let enabled : IsTrue (is_enabled w.script (world_of w) c.in-Some.choice.node c.in-Some.choice.step) = search rules in
    may_move w.script w.limit w.run c.in-Some.choice.node c.in-Some.choice.step kept c.loop-schedule.invariant.within none enabled

pub loop-schedule-smaller : goal.loop-schedule-smaller
loop-schedule-smaller c =
    let w = c.loop-schedule.world in
    let choice = c.in-Some.choice in
    let kept : IsScript w.script = subst IsScript (sym c.loop-schedule.invariant.script) c.requires.kept in
    let none : full_node w.script w.limit w.run ≡ None = search rules in
    let enabled : IsTrue (is_enabled w.script (world_of w) choice.node choice.step) = search rules in
    let may = may_move w.script w.limit w.run choice.node choice.step kept c.loop-schedule.invariant.within none enabled in
    let stepped : c.step.new.self ≡ record w { run = w.run ++ logged w.script (world_of w) choice.node choice.step ∷ [] } = c.in_ok-step.ensures.ok in
    subst (λ (v : WorldData). room_left v.script v.limit v.run < room_left w.script w.limit w.run) (sym stepped)
    (less_room w.script w.limit w.run (world_of w) choice.node choice.step (mover_within w.script (world_of w) choice.node choice.step kept enabled) may)

pub loop-schedule-preserved : goal.loop-schedule-preserved
loop-schedule-preserved c =
    let w = c.loop-schedule.world in
    let choice = c.in-Some.choice in
    let kept : IsScript w.script = subst IsScript (sym c.loop-schedule.invariant.script) c.requires.kept in
    let none : full_node w.script w.limit w.run ≡ None = search rules in
    let enabled : IsTrue (is_enabled w.script (world_of w) choice.node choice.step) = search rules in
    let may = may_move w.script w.limit w.run choice.node choice.step kept c.loop-schedule.invariant.within none enabled in
    let entry = logged w.script (world_of w) choice.node choice.step in
    let stepped : c.step.new.self ≡ record w { run = w.run ++ entry ∷ [] } = c.in_ok-step.ensures.ok in
    let was : Schedule = c.loop-schedule.schedule in
    let is = c.loop-schedule.invariant.schedule in
    let place : ℕ = (scheduled was (count_turns w.script (world_of w))).0 in
    let at : IsAt w.script (world_of w) place entry = picked w.script (world_of w) place choice c.in-Some.ensures.place in
    let next : c.choose.new.self ≡ (scheduled was (count_turns w.script (world_of w))).1 = c.in-Some.ensures.next in
    let in_order : AreInOrder c.args.schedule w.script (w.run ++ entry ∷ []) =
    one_more w.script (start w.script) c.args.schedule w.run entry c.loop-schedule.invariant.in_order
    (subst (λ (o : Schedule). IsAt w.script (world_of w) (scheduled o (count_turns w.script (world_of w))).0 entry) is at) in
    let schedule : c.choose.new.self ≡ schedule_after w.script (start w.script) c.args.schedule (w.run ++ entry ∷ []) =
    next ∙ (ap (λ (o : Schedule). (scheduled o (count_turns w.script (world_of w))).1) is ∙ sym (schedule_more w.script (start w.script) c.args.schedule w.run entry)) in
    record {
      script = ap (λ (v : WorldData). v.script) stepped ∙ c.loop-schedule.invariant.script;
      limit = ap (λ (v : WorldData). v.limit) stepped ∙ c.loop-schedule.invariant.limit;
      within = subst (λ (v : WorldData). StaysWithin v.limit v.script v.run) (sym stepped) (stays_within w.script w.limit w.run (world_of w) choice.node choice.step c.loop-schedule.invariant.within may);
      in_time = subst (λ (v : WorldData). StopsInTime v.limit v.script v.run) (sym stepped) (stays_in_time w.script w.limit w.run entry c.loop-schedule.invariant.in_time none);
      in_order = subst (λ (v : WorldData). AreInOrder c.args.schedule v.script v.run) (sym stepped) in_order;
      schedule = subst (λ (v : WorldData). c.choose.new.self ≡ schedule_after v.script (start v.script) c.args.schedule v.run) (sym stepped) schedule;
    }
