use Rattle.std.proofs.Common.{◌∙◌, ◌<◌, Some, ap, length, refl, subst, sym}
use Rattle.lt_modes.specs.declared.command.Command.{Command}
use Rattle.lt_node.specs.Touched.{named_set}
use Rattle.lt_node.specs.Clients.{next_of}
use Rattle.lt_node.proofs.NodeLemmas.{node_is}
use Rattle.lt_node.proofs.AdvanceLemmas.{next_at, next_is, next_targets}
use Rattle.lt_node.proofs.TouchedLemmas.{named_inside}
use Rattle.lt_node.proofs.node.Node.upcoming.Goals as goal

pub upcoming-requires : goal.upcoming-requires
upcoming-requires c =
    (next_at _ c.args.self.now c.self.inside.homes.items c.self.inside.clients.items c.args.client c.from.result c.index.result.now c.self.view_is c.self.invariant.0 refl c.self.invariant.1
    c.from.ensures c.index.ensures c.requires.client c.requires.home c.requires.left).left

pub returns-clause-next : goal.returns-clause-next
returns-clause-next c =
    let next =
    next_at _ c.args.self.now c.self.inside.homes.items c.self.inside.clients.items c.args.client c.from.result c.index.result.now c.self.view_is c.self.invariant.0 refl c.self.invariant.1
    c.from.ensures c.index.ensures c.requires.client c.requires.home c.requires.left in
    next_is c.args.self.now c.args.client c.index.result.now next ∙ ap Some (sym c.upcoming.ensures)

pub returns-clause-named : goal.returns-clause-named
returns-clause-named c =
    let n = c.args.self.now in
    let next =
    next_at _ c.args.self.now c.self.inside.homes.items c.self.inside.clients.items c.args.client c.from.result c.index.result.now c.self.view_is c.self.invariant.0 refl c.self.invariant.1
    c.from.ensures c.index.ensures c.requires.client c.requires.home c.requires.left in
    subst (λ (command : Command). named_set command < length n.script.sets) (sym c.upcoming.ensures)
    (named_inside n.script c.args.client (next_of c.index.result.now) (next_targets n c.args.client c.index.result.now (node_is _ n c.self.view_is c.self.invariant.0) next))
