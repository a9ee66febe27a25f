use Rattle.std.proofs.Common.{◌<◌, ◌∙◌, ℕ, ap, length, map, refl, slice_set, subst, sym}
use Rattle.lt_spec.specs.Script.{IsOfVersion, HasTargets}
use Rattle.lt_spec.specs.declared.limits.TheConstants.{MAX_COMMANDS_OF_SERVICE}
use Rattle.lt_node.specs.NodeData.{IsNode, NodeData}
use Rattle.lt_node.specs.Clients.{AreOwn, KnowsClients, progress_made, with_request}
use Rattle.lt_node.specs.Forgetting.{LongScriptData}
use Rattle.lt_node.specs.Sets.{AreSetsOf}
use Rattle.lt_node.proofs.AdvanceLemmas.{appended_at, client_inside}
use Rattle.lt_node.proofs.node.Node.append.Goals as goal

pub invariant_of-self-2 : goal.invariant_of-self-2
invariant_of-self-2 c =
    let appended = appended_at _ c.args.self.now c.self.inside.homes.items c.self.inside.clients.items c.args.client c.from.result c.index_mut.result.now c.append_to.new.list
    (with_request c.self.inside.script.whole c.args.client c.args.command) c.args.command
    c.self.view_is c.self.invariant.0 refl c.self.invariant.1 c.from.ensures c.index_mut.ensures.value
    (record { inside = c.requires.client; here = c.requires.home; targets = c.requires.targets; modes = c.requires.modes; room = c.requires.room })
    c.in_ok-append_to.ensures.list refl in
    subst (λ (s : LongScriptData).
    IsNode (record { script = s.whole; gone = s.gone; me = c.self.inside.me; clock = c.self.inside.clock; made = map progress_made (slice_set c.self.inside.clients.items c.from.result c.append_to.new.list); cores = c.self.inside.sets.cores })
    × KnowsClients s.whole c.self.inside.me c.self.inside.homes.items (slice_set c.self.inside.clients.items c.from.result c.append_to.new.list)
    × AreSetsOf s.whole c.self.inside.me c.self.inside.sets × AreOwn s.whole.clients c.self.inside.me 0 (length s.whole.clients) c.self.inside.own.items)
    (sym c.in_ok-append_to.ensures.script) (
      appended.holds.node,
      appended.holds.knows,
      record { nodes = c.self.invariant.2.nodes; node = c.self.invariant.2.node; count = c.self.invariant.2.count; places = c.self.invariant.2.places },
      c.self.invariant.3,
    )

pub returns-clause-appended : goal.returns-clause-appended
returns-clause-appended c =
    let appended = appended_at _ c.args.self.now c.self.inside.homes.items c.self.inside.clients.items c.args.client c.from.result c.index_mut.result.now c.append_to.new.list
    (with_request c.self.inside.script.whole c.args.client c.args.command) c.args.command
    c.self.view_is c.self.invariant.0 refl c.self.invariant.1 c.from.ensures c.index_mut.ensures.value
    (record { inside = c.requires.client; here = c.requires.home; targets = c.requires.targets; modes = c.requires.modes; room = c.requires.room })
    c.in_ok-append_to.ensures.list refl in
    ap (λ (s : LongScriptData). let n : NodeData = record { script = s.whole; gone = s.gone; me = c.self.inside.me; clock = c.self.inside.clock; made = map progress_made (slice_set c.self.inside.clients.items c.from.result c.append_to.new.list); cores = c.self.inside.sets.cores } in n) c.in_ok-append_to.ensures.script
    ∙ appended.is

pub append_to-requires-clause-client : goal.append_to-requires-clause-client
append_to-requires-clause-client c = subst (λ (n : NodeData). c.args.client < length n.script.clients) (sym c.self.view_is) c.requires.client

pub append_to-requires-clause-targets : goal.append_to-requires-clause-targets
append_to-requires-clause-targets c = subst (λ (n : NodeData). HasTargets n.script.sets n.script.clients c.args.client c.args.command) (sym c.self.view_is) c.requires.targets

pub append_to-requires-clause-modes : goal.append_to-requires-clause-modes
append_to-requires-clause-modes c = subst (λ (n : NodeData). IsOfVersion n.script.version c.args.command) (sym c.self.view_is) c.requires.modes

pub append_to-requires-clause-room : goal.append_to-requires-clause-room
append_to-requires-clause-room c = subst (λ (n : NodeData). length n.script.commands < MAX_COMMANDS_OF_SERVICE) (sym c.self.view_is) c.requires.room

pub index_mut-requires : goal.index_mut-requires
index_mut-requires c = subst (λ (n : ℕ). c.from.result < n) (sym c.self.inside.clients.ok.0) (client_inside _ c.args.self.now c.self.inside.clients.items c.args.client c.from.result c.self.view_is c.self.invariant.0 refl c.from.ensures c.requires.client)
