use Rattle.std.proofs.Common.{◌≡◌, ◌∙◌, ap, arith, None, refl, Some, sym}
use Rattle.lt_modes.specs.declared.event.Event.TheVariants as events
use Rattle.lt_core.specs.declared.set_command.Answer.TheVariants.{Dropped}
use Rattle.lt_spec.specs.NodeMove.{related, node_waits, locks_in_sets}
use Rattle.lt_node.specs.NodeData.{NodeData, ending, state_of}
use Rattle.lt_node.specs.Sets.{core_in}
use Rattle.lt_node.proofs.DropLemmas.{busy_is, drop_done, dropped_is, ended_by_sets, locks_here, ready_here, room_left, sets_whole}
use Rattle.lt_node.proofs.NodeSets.{node_of_sets, sets_left}
use Rattle.lt_node.proofs.node.Node.drop_all.Goals as goal

pub end_each-requires-clause-sets : goal.end_each-requires-clause-sets
end_each-requires-clause-sets c =
    sets_left c.self.inside.script.whole c.kept.result.now c.self.inside.me c.args.stamp.node c.self.inside.script.gone c.self.inside.sets c.kept.ensures
    (c.requires.node ∙ sym (ap (λ (n : NodeData). n.me) c.self.view_is)) c.self.invariant.2

pub end_each-requires-clause-rooms : goal.end_each-requires-clause-rooms
end_each-requires-clause-rooms c =
    (ready_here _ c.args.self.now c.kept.result.now c.self.inside.script.gone c.self.inside.sets c.self.view_is c.kept.ensures c.self.invariant.2 refl c.args.set c.args.stamp.clock c.args.out.now c.requires.ready).rooms

pub end_each-requires-clause-send : goal.end_each-requires-clause-send
end_each-requires-clause-send c =
    room_left (related c.kept.result.now c.args.set) c.args.stamp.clock (core_in c.self.inside.sets) (events.Busy c.args.client c.args.other c.args.set) c.args.out.now c.push_event.new.self
    (ready_here _ c.args.self.now c.kept.result.now c.self.inside.script.gone c.self.inside.sets c.self.view_is c.kept.ensures c.self.invariant.2 refl c.args.set c.args.stamp.clock c.args.out.now c.requires.ready) c.push_event.ensures

pub returns-then-waits-clause-does : goal.returns-then-waits-clause-does
returns-then-waits-clause-does c =
    let n = c.args.self.now in
    let waits = node_waits n.script (state_of n) c.args.other in
    let ended = ended_by_sets c.self.inside.script.whole c.kept.result.now c.self.inside.script.gone c.kept.ensures c.args.stamp.node c.args.set (ending None c.args.stamp)
    c.self.inside.sets.cores c.end_each.new.sets.cores c.push_event.new.self c.end_each.new.out c.end_each.ensures.does in
    drop_done _ n c.args.stamp c.args.client c.args.other c.args.set waits None (events.Busy c.args.client c.args.other c.args.set) c.args.out.now c.push_event.new.self c.end_each.new.out
    c.end_each.new.sets.cores c.self.view_is c.requires.node c.push_event.ensures ended
    (busy_is waits c.args.stamp c.args.client c.args.other c.args.set (related n.script c.args.set) (state_of n) (sym c.waits.ensures ∙ c.if-waits.true))

pub invariant_of-self : goal.invariant_of-self
invariant_of-self c =
    let here = c.requires.node ∙ sym (ap (λ (n : NodeData). n.me) c.self.view_is) in
    let of = sets_whole c.self.inside.script.whole c.kept.result.now c.args.stamp.node c.self.inside.me c.self.inside.script.gone c.end_each.new.sets c.kept.ensures here c.end_each.ensures.sets in (
      node_of_sets _ c.self.inside.clock c.end_each.new.sets c.self.invariant.0 of,
      c.self.invariant.1,
      of,
      c.self.invariant.3,
    )

pub locks-locks-requires-clause-count : goal.locks-locks-requires-clause-count
locks-locks-requires-clause-count c =
    (sets_left c.self.inside.script.whole c.kept-2.result.now c.self.inside.me c.args.stamp.node c.self.inside.script.gone c.self.inside.sets c.kept-2.ensures
    (c.requires.node ∙ sym (ap (λ (n : NodeData). n.me) c.self.view_is)) c.self.invariant.2).count

pub locks-locks-requires-clause-few : goal.locks-locks-requires-clause-few
locks-locks-requires-clause-few c =
    omega (arith, c.requires.few, locks_here _ c.args.self.now c.kept-2.result.now c.self.inside.script.gone c.self.inside.sets c.self.view_is c.kept-2.ensures c.self.invariant.2 refl c.args.set c.args.other)

count : (c : goal.After-end_each-2) → c.locks-locks.result ≡ locks_in_sets (state_of c.args.self.now) c.args.other (related c.args.self.now.script c.args.set)
count c =
    c.locks-locks.ensures ∙ locks_here _ c.args.self.now c.kept-2.result.now c.self.inside.script.gone c.self.inside.sets c.self.view_is c.kept-2.ensures c.self.invariant.2 refl c.args.set c.args.other

pub end_each-requires-2-clause-sets : goal.end_each-requires-2-clause-sets
end_each-requires-2-clause-sets c =
    sets_left c.self.inside.script.whole c.kept-3.result.now c.self.inside.me c.args.stamp.node c.self.inside.script.gone c.self.inside.sets c.kept-3.ensures
    (c.requires.node ∙ sym (ap (λ (n : NodeData). n.me) c.self.view_is)) c.self.invariant.2

pub end_each-requires-2-clause-rooms : goal.end_each-requires-2-clause-rooms
end_each-requires-2-clause-rooms c =
    (ready_here _ c.args.self.now c.kept-3.result.now c.self.inside.script.gone c.self.inside.sets c.self.view_is c.kept-3.ensures c.self.invariant.2 refl c.args.set c.args.stamp.clock c.args.out.now c.requires.ready).rooms

pub end_each-requires-2-clause-send : goal.end_each-requires-2-clause-send
end_each-requires-2-clause-send c =
    room_left (related c.kept-3.result.now c.args.set) c.args.stamp.clock (core_in c.self.inside.sets) (events.DropAll c.args.client c.args.other c.args.set c.locks-locks.result) c.args.out.now c.push_event-2.new.self
    (ready_here _ c.args.self.now c.kept-3.result.now c.self.inside.script.gone c.self.inside.sets c.self.view_is c.kept-3.ensures c.self.invariant.2 refl c.args.set c.args.stamp.clock c.args.out.now c.requires.ready) c.push_event-2.ensures

pub returns-clause-answer : goal.returns-clause-answer
returns-clause-answer c = rw (sym (c.waits.ensures) ∙ c.if-waits.false) (ap Dropped (count c))

pub returns-clause-does : goal.returns-clause-does
returns-clause-does c =
    let n = c.args.self.now in
    let waits = node_waits n.script (state_of n) c.args.other in
    let ended = ended_by_sets c.self.inside.script.whole c.kept-3.result.now c.self.inside.script.gone c.kept-3.ensures c.args.stamp.node c.args.set (ending (Some c.args.other) c.args.stamp)
    c.self.inside.sets.cores c.end_each-2.new.sets.cores c.push_event-2.new.self c.end_each-2.new.out c.end_each-2.ensures.does in
    drop_done _ n c.args.stamp c.args.client c.args.other c.args.set waits (Some c.args.other) (events.DropAll c.args.client c.args.other c.args.set c.locks-locks.result) c.args.out.now
    c.push_event-2.new.self c.end_each-2.new.out c.end_each-2.new.sets.cores c.self.view_is c.requires.node c.push_event-2.ensures ended
    (dropped_is waits c.args.stamp c.args.client c.args.other c.args.set c.locks-locks.result (related n.script c.args.set) (state_of n) (sym c.waits.ensures ∙ c.if-waits.false) (count c))

pub invariant_of-self-2 : goal.invariant_of-self-2
invariant_of-self-2 c =
    let here = c.requires.node ∙ sym (ap (λ (n : NodeData). n.me) c.self.view_is) in
    let of = sets_whole c.self.inside.script.whole c.kept-3.result.now c.args.stamp.node c.self.inside.me c.self.inside.script.gone c.end_each-2.new.sets c.kept-3.ensures here c.end_each-2.ensures.sets in (
      node_of_sets _ c.self.inside.clock c.end_each-2.new.sets c.self.invariant.0 of,
      c.self.invariant.1,
      of,
      c.self.invariant.3,
    )
