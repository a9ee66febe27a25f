use Rattle.std.proofs.Common.{◌∙◌, ℕ, ap, refl, subst, sym}
use Rattle.lt_core.specs.CoreData.{CoreData, answer_of, move_of}
use Rattle.lt_node.specs.NodeData.{IsSetReady, NodeData}
use Rattle.lt_node.proofs.NodeSets.{core_held, node_of_sets, set_done, set_inside, sets_moved}
use Rattle.lt_node.specs.Sets.{core_in}
use Rattle.lt_node.proofs.node.Node.touch.Goals as goal

pub act-requires-clause-set : goal.act-requires-clause-set
act-requires-clause-set c = set_inside _ c.args.self.now c.self.inside.sets c.args.set c.self.view_is c.self.invariant.2 c.requires.set

pub act-requires-clause-node : goal.act-requires-clause-node
act-requires-clause-node c = c.requires.node ∙ sym (ap (λ (n : NodeData). n.me) c.self.view_is) ∙ sym c.self.invariant.2.node

pub act-requires-clause-ready : goal.act-requires-clause-ready
act-requires-clause-ready c =
    subst (λ (f : ℕ → CoreData). IsSetReady c.args.client c.args.command c.args.stamp.clock (f c.args.set) c.args.out.now)
    (core_held _ c.args.self.now c.self.inside.sets c.self.view_is refl c.self.invariant.2) c.requires.ready

pub returns-clause-answer : goal.returns-clause-answer
returns-clause-answer c =
    c.act.ensures.answer ∙ ap (λ (q : ℕ). answer_of q c.args.client c.args.command (core_in c.self.inside.sets c.args.set).state) c.requires.node
    ∙ sym (ap (λ (f : ℕ → CoreData). answer_of c.args.self.now.me c.args.client c.args.command (f c.args.set).state) (core_held _ c.args.self.now c.self.inside.sets c.self.view_is refl c.self.invariant.2))

pub returns-clause-does : goal.returns-clause-does
returns-clause-does c =
    set_done _ c.args.self.now c.self.inside.sets c.act.new.self c.args.set (λ set state. move_of c.args.stamp c.args.client c.args.command set state) c.args.out.now c.act.new.out
    c.self.view_is refl c.self.invariant.2 (set_inside _ c.args.self.now c.self.inside.sets c.args.set c.self.view_is c.self.invariant.2 c.requires.set) c.act.ensures.does

pub invariant_of-self : goal.invariant_of-self
invariant_of-self c =
    let inside = set_inside _ c.args.self.now c.self.inside.sets c.args.set c.self.view_is c.self.invariant.2 c.requires.set in
    let moved = sets_moved c.self.inside.script.whole c.self.inside.me c.args.set _ c.self.inside.sets c.act.new.self c.args.out.now c.act.new.out c.self.invariant.2 c.act.ensures.does inside in (
      node_of_sets _ c.self.inside.clock c.act.new.self c.self.invariant.0 moved,
      c.self.invariant.1,
      moved,
      c.self.invariant.3,
    )
