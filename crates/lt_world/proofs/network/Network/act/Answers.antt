use Rattle.lt_modes.specs.declared.moves.Step.TheVariants.{Act}
use Rattle.lt_world.specs.Fields.{node_at}
use Rattle.lt_world.proofs.Premises.{acts_now, acted, act_stamped}
use Rattle.lt_world.proofs.Taking.{targets, sender, run_moved, holds_moved}
use Rattle.lt_world.proofs.network.Network.act.Goals as goal

pub act_at-stamp-requires-clause-acts : goal.act_at-stamp-requires-clause-acts
act_at-stamp-requires-clause-acts c =
    let n = c.args.self.now in
    acts_now c.args.script.now c.args.node c.args.client n.nodes.items n.inboxes n.out n.run.entries c.requires.opened

pub record_move-requires-clause-targets : goal.record_move-requires-clause-targets
record_move-requires-clause-targets c =
    let n = c.args.self.now in
    let made = c.act_at-stamp.new in
    let opened = c.requires.opened in
    let mover = node_at made.nodes.items c.args.node in
    let done = acted c.args.script.now c.args.node c.args.client n.nodes.items n.inboxes n.out made.out n.run.entries mover opened c.act_at-stamp.ensures.does in
    targets c.args.script.now c.args.node (Act c.args.client) n.nodes.items n.inboxes n.out made.out n.run.entries mover opened done

pub record_move-requires-clause-sender : goal.record_move-requires-clause-sender
record_move-requires-clause-sender c =
    let n = c.args.self.now in
    let opened = c.requires.opened in
    let at = act_stamped c.args.script.now c.args.node c.args.client n.nodes.items n.inboxes n.out n.run.entries c.act_at-stamp.result opened c.act_at-stamp.ensures.stamp in
    sender c.args.script.now c.args.node (Act c.args.client) n.nodes.items n.inboxes n.out n.run.entries c.act_at-stamp.result opened at

pub returns-clause-holds : goal.returns-clause-holds
returns-clause-holds c =
    let n = c.args.self.now in
    let made = c.act_at-stamp.new in
    let opened = c.requires.opened in
    let mover = node_at made.nodes.items c.args.node in
    let done = acted c.args.script.now c.args.node c.args.client n.nodes.items n.inboxes n.out made.out n.run.entries mover opened c.act_at-stamp.ensures.does in
    let at = act_stamped c.args.script.now c.args.node c.args.client n.nodes.items n.inboxes n.out n.run.entries c.act_at-stamp.result opened c.act_at-stamp.ensures.stamp in
    let longer = run_moved c.args.script.now c.args.node (Act c.args.client) n.nodes.items n.inboxes n.out made.out n.run.entries c.record_move.new.run.entries mover c.act_at-stamp.result opened done at
    c.record_move.ensures.entries in
    holds_moved c.args.script.now c.args.node (Act c.args.client) n.nodes.items made.nodes.items n.inboxes c.record_move.new.inboxes n.out made.out c.record_move.new.out
    n.run.entries c.record_move.new.run.entries mover c.act_at-stamp.result opened done at c.act_at-stamp.ensures.others c.record_move.ensures.delivered longer c.record_move.ensures.out

pub returns-clause-entries : goal.returns-clause-entries
returns-clause-entries c =
    let n = c.args.self.now in
    let made = c.act_at-stamp.new in
    let opened = c.requires.opened in
    let mover = node_at made.nodes.items c.args.node in
    let done = acted c.args.script.now c.args.node c.args.client n.nodes.items n.inboxes n.out made.out n.run.entries mover opened c.act_at-stamp.ensures.does in
    let at = act_stamped c.args.script.now c.args.node c.args.client n.nodes.items n.inboxes n.out n.run.entries c.act_at-stamp.result opened c.act_at-stamp.ensures.stamp in
    run_moved c.args.script.now c.args.node (Act c.args.client) n.nodes.items n.inboxes n.out made.out n.run.entries c.record_move.new.run.entries mover c.act_at-stamp.result opened done at
    c.record_move.ensures.entries
