use Rattle.std.proofs.Common.{◌<◌, ℕ, Some, ap, arith, refl, subst, sym, ◌∙◌}
use Rattle.lt_modes.specs.declared.command.Command.{Command}
use Rattle.lt_spec.specs.Script.{HasTargets}
use Rattle.lt_node.specs.NodeData.{NodeData}
use Rattle.lt_node.proofs.NodeLemmas.{node_is}
use Rattle.lt_node.proofs.AdvanceLemmas.{HasNext, client_inside, next_at, next_is, next_targets, advanced_at, node_advanced, clients_advanced}
use Rattle.lt_node.proofs.node.Node.advance.Goals as goal

pub next-requires-clause-few : goal.next-requires-clause-few
next-requires-clause-few c =
    let next = next_at _ c.args.self.now c.self.inside.homes.items c.self.inside.clients.items c.args.client c.from.result c.index_mut.result.now c.self.view_is c.self.invariant.0 refl c.self.invariant.1
    c.from.ensures c.index_mut.ensures.value c.requires.client c.requires.home c.requires.left in
    omega (arith, next.few)

next : (c : goal.After-self-2-1) → HasNext c.args.self.now c.args.client c.index_mut.result.now
next c =
    next_at _ c.args.self.now c.self.inside.homes.items c.self.inside.clients.items c.args.client c.from.result c.index_mut.result.now c.self.view_is c.self.invariant.0 refl c.self.invariant.1
    c.from.ensures c.index_mut.ensures.value c.requires.client c.requires.home c.requires.left

pub invariant_of-self : goal.invariant_of-self
invariant_of-self c =
    let clients = c.self.inside.clients.items in (
      node_advanced _ clients c.from.result c.next.new.self c.self.invariant.0 refl,
      clients_advanced c.self.inside.script.whole c.self.inside.me c.self.inside.homes.items clients c.from.result c.index_mut.result.now c.next.new.self c.self.invariant.1
          (client_inside _ c.args.self.now clients c.args.client c.from.result c.self.view_is c.self.invariant.0 refl c.from.ensures c.requires.client) c.index_mut.ensures.value c.next.ensures.made,
      c.self.invariant.2,
      c.self.invariant.3,
    )

pub returns-clause-command : goal.returns-clause-command
returns-clause-command c = next_is c.args.self.now c.args.client c.index_mut.result.now (next c) ∙ sym (ap Some c.next.ensures.command)

pub returns-clause-targets : goal.returns-clause-targets
returns-clause-targets c =
    subst (λ (command : Command). HasTargets c.args.self.now.script.sets c.args.self.now.script.clients c.args.client command) (sym c.next.ensures.command)
    (next_targets c.args.self.now c.args.client c.index_mut.result.now (node_is _ c.args.self.now c.self.view_is c.self.invariant.0) (next c))

pub returns-clause-state : goal.returns-clause-state
returns-clause-state c =
    advanced_at _ c.args.self.now c.self.inside.clients.items c.args.client c.from.result c.index_mut.result.now c.next.new.self c.self.view_is c.self.invariant.0 refl c.from.ensures
    c.requires.client (next c) c.next.ensures.made

pub overflow_add-self : goal.overflow_add-self
overflow_add-self c = omega (arith, c.requires.clock, ap (λ (n : NodeData). n.clock) c.self.view_is)

pub index_mut-requires : goal.index_mut-requires
index_mut-requires c = subst (λ (n : ℕ). c.from.result < n) (sym c.self.inside.clients.ok.0) (client_inside _ c.args.self.now c.self.inside.clients.items c.args.client c.from.result c.self.view_is c.self.invariant.0 refl c.from.ensures c.requires.client)

pub next-requires-clause-left : goal.next-requires-clause-left
next-requires-clause-left c =
    (next_at _ c.args.self.now c.self.inside.homes.items c.self.inside.clients.items c.args.client c.from.result c.index_mut.result.now c.self.view_is c.self.invariant.0 refl c.self.invariant.1
    c.from.ensures c.index_mut.ensures.value c.requires.client c.requires.home c.requires.left).left

pub returns-clause-kept : goal.returns-clause-kept
returns-clause-kept c = node_is _ c.args.self.now c.self.view_is c.self.invariant.0

pub returns-clause-place : goal.returns-clause-place
returns-clause-place c = (ap (λ (n : NodeData). n.script) c.self.view_is, ap (λ (n : NodeData). n.me) c.self.view_is)

pub returns-clause-gone : goal.returns-clause-gone
returns-clause-gone c = ap (λ (n : NodeData). n.gone) c.self.view_is

pub returns-clause-cores : goal.returns-clause-cores
returns-clause-cores c = ap (λ (n : NodeData). n.cores) c.self.view_is
