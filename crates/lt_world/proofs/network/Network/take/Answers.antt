use Rattle.lt_modes.specs.declared.moves.Step.TheVariants.{Take}
use Rattle.lt_desk.specs.LetterSeen.{letter_seen}
use Rattle.lt_world.specs.Fields.{node_at}
use Rattle.lt_world.proofs.Taking.{takes_now, took, take_stamped, targets, sender, run_moved, holds_moved}
use Rattle.lt_world.proofs.network.Network.take.Goals as goal

pub take_at-stamp-requires-clause-takes : goal.take_at-stamp-requires-clause-takes
take_at-stamp-requires-clause-takes c =
    let n = c.args.self.now in
    takes_now c.args.script.now c.args.node c.args.sender (letter_seen c.args.letter) n.nodes.items n.inboxes n.out n.run.entries c.requires.opened c.requires.room.1

pub record_move-requires-clause-targets : goal.record_move-requires-clause-targets
record_move-requires-clause-targets c =
    let n = c.args.self.now in
    let made = c.take_at-stamp.new in
    let opened = c.requires.opened in
    let front = c.requires.room.1 in
    let letter = letter_seen c.args.letter in
    let mover = node_at made.nodes.items c.args.node in
    let done = took c.args.script.now c.args.node c.args.sender letter n.nodes.items n.inboxes n.out made.out n.run.entries mover opened front c.take_at-stamp.ensures.does in
    targets c.args.script.now c.args.node (Take c.args.sender) n.nodes.items n.inboxes n.out made.out n.run.entries mover opened done

pub record_move-requires-clause-sender : goal.record_move-requires-clause-sender
record_move-requires-clause-sender c =
    let n = c.args.self.now in
    let opened = c.requires.opened in
    let front = c.requires.room.1 in
    let letter = letter_seen c.args.letter in
    let at = take_stamped c.args.script.now c.args.node c.args.sender letter n.nodes.items n.inboxes n.out n.run.entries c.take_at-stamp.result opened front c.take_at-stamp.ensures.stamp in
    sender c.args.script.now c.args.node (Take c.args.sender) n.nodes.items n.inboxes n.out n.run.entries c.take_at-stamp.result opened at

pub returns-clause-holds : goal.returns-clause-holds
returns-clause-holds c =
    let n = c.args.self.now in
    let made = c.take_at-stamp.new in
    let opened = c.requires.opened in
    let front = c.requires.room.1 in
    let letter = letter_seen c.args.letter in
    let mover = node_at made.nodes.items c.args.node in
    let done = took c.args.script.now c.args.node c.args.sender letter n.nodes.items n.inboxes n.out made.out n.run.entries mover opened front c.take_at-stamp.ensures.does in
    let at = take_stamped c.args.script.now c.args.node c.args.sender letter n.nodes.items n.inboxes n.out n.run.entries c.take_at-stamp.result opened front c.take_at-stamp.ensures.stamp in
    let longer = run_moved c.args.script.now c.args.node (Take c.args.sender) n.nodes.items n.inboxes n.out made.out n.run.entries c.record_move.new.run.entries mover c.take_at-stamp.result opened done at
    c.record_move.ensures.entries in
    holds_moved c.args.script.now c.args.node (Take c.args.sender) n.nodes.items made.nodes.items n.inboxes c.record_move.new.inboxes n.out made.out c.record_move.new.out
    n.run.entries c.record_move.new.run.entries mover c.take_at-stamp.result opened done at c.take_at-stamp.ensures.others c.record_move.ensures.delivered longer c.record_move.ensures.out

pub returns-clause-entries : goal.returns-clause-entries
returns-clause-entries c =
    let n = c.args.self.now in
    let made = c.take_at-stamp.new in
    let opened = c.requires.opened in
    let front = c.requires.room.1 in
    let letter = letter_seen c.args.letter in
    let mover = node_at made.nodes.items c.args.node in
    let done = took c.args.script.now c.args.node c.args.sender letter n.nodes.items n.inboxes n.out made.out n.run.entries mover opened front c.take_at-stamp.ensures.does in
    let at = take_stamped c.args.script.now c.args.node c.args.sender letter n.nodes.items n.inboxes n.out n.run.entries c.take_at-stamp.result opened front c.take_at-stamp.ensures.stamp in
    run_moved c.args.script.now c.args.node (Take c.args.sender) n.nodes.items n.inboxes n.out made.out n.run.entries c.record_move.new.run.entries mover c.take_at-stamp.result opened done at
    c.record_move.ensures.entries
