use Rattle.std.proofs.Common.{◌∙◌, ◌<◌, Some, ap, length, refl, subst, sym, ℕ}
use Rattle.lt_modes.specs.declared.command.Command.{Command}
use Rattle.lt_node.specs.NodeData.{state_of}
use Rattle.lt_node.specs.Touched.{named_set, leaves_room_to_obey}
use Rattle.lt_node.specs.Clients.{next_of}
use Rattle.lt_node.proofs.NodeLemmas.{node_is}
use Rattle.lt_node.proofs.AdvanceLemmas.{client_inside, next_at, next_is, next_targets}
use Rattle.lt_node.proofs.TouchedLemmas.{named_inside}
use Rattle.lt_node.proofs.node.Node.leaves_room_to_act.Goals as goal

pub upcoming-requires : goal.upcoming-requires
upcoming-requires c =
    (next_at _ c.args.self.now c.self.inside.homes.items c.self.inside.clients.items c.args.client c.from.result c.index.result.now c.self.view_is c.self.invariant.0 refl c.self.invariant.1
    c.from.ensures c.index.ensures c.requires.client c.requires.home c.requires.left).left

pub leaves_room_to_obey-requires : goal.leaves_room_to_obey-requires
leaves_room_to_obey-requires c =
    let n = c.args.self.now in
    let next =
    next_at _ c.args.self.now c.self.inside.homes.items c.self.inside.clients.items c.args.client c.from.result c.index.result.now c.self.view_is c.self.invariant.0 refl c.self.invariant.1
    c.from.ensures c.index.ensures c.requires.client c.requires.home c.requires.left in
    subst (λ (command : Command). named_set command < length n.script.sets) (sym c.upcoming.ensures)
    (named_inside n.script c.args.client (next_of c.index.result.now) (next_targets n c.args.client c.index.result.now (node_is _ n c.self.view_is c.self.invariant.0) next))

pub returns : goal.returns
returns c =
    let n = c.args.self.now in
    let next =
    next_at _ c.args.self.now c.self.inside.homes.items c.self.inside.clients.items c.args.client c.from.result c.index.result.now c.self.view_is c.self.invariant.0 refl c.self.invariant.1
    c.from.ensures c.index.ensures c.requires.client c.requires.home c.requires.left in
    c.leaves_room_to_obey.ensures ∙ ap (leaves_room_to_obey n.script (state_of n) c.args.client) (ap Some c.upcoming.ensures ∙ sym (next_is n c.args.client c.index.result.now next))

pub index-requires : goal.index-requires
index-requires c = subst (λ (n : ℕ). c.from.result < n) (sym c.self.inside.clients.ok.0) (client_inside _ c.args.self.now c.self.inside.clients.items c.args.client c.from.result c.self.view_is c.self.invariant.0 refl c.from.ensures c.requires.client)
