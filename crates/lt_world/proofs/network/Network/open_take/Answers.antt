use Rattle.std.proofs.Common.{arith}
use Rattle.lt_modes.specs.declared.moves.Step.TheVariants.{Take}
use Rattle.lt_desk.specs.LetterSeen.{letter_seen}
use Rattle.lt_world.proofs.Taking.{opened_same, InHand, take_opened, mail_is, takes_now, take_left, front_same}
use Rattle.lt_world.proofs.network.Network.open_take.Goals as goal

pub reserve_letter-requires-clause-takes : goal.reserve_letter-requires-clause-takes
reserve_letter-requires-clause-takes c =
    let n = c.args.self.now in
    let popped = c.pop_front-letter.new.self in
    let letter = letter_seen c.pop_front-letter.result in
    let hand : InHand c.args.script.now c.args.node c.args.sender letter n.nodes.items n.inboxes popped n.out n.run.entries = record {
      holds = c.requires.holds;
      enabled = c.requires.enabled;
      few = c.requires.few;
      taken = c.pop_front-letter.ensures;
    } in
    let opened = take_opened c.args.script.now c.args.node c.args.sender letter n.nodes.items n.inboxes popped n.out n.run.entries hand in
    let front = mail_is c.args.script.now c.args.node c.args.sender letter n.nodes.items n.inboxes popped n.out n.run.entries hand in
    takes_now c.args.script.now c.args.node c.args.sender letter n.nodes.items popped n.out n.run.entries opened front

pub returns-clause-reserved : goal.returns-clause-reserved
returns-clause-reserved c =
    let n = c.args.self.now in
    let popped = c.pop_front-letter.new.self in
    let letter = letter_seen c.pop_front-letter.result in
    let hand : InHand c.args.script.now c.args.node c.args.sender letter n.nodes.items n.inboxes popped n.out n.run.entries = record {
      holds = c.requires.holds;
      enabled = c.requires.enabled;
      few = c.requires.few;
      taken = c.pop_front-letter.ensures;
    } in
    let opened = take_opened c.args.script.now c.args.node c.args.sender letter n.nodes.items n.inboxes popped n.out n.run.entries hand in
    let front = mail_is c.args.script.now c.args.node c.args.sender letter n.nodes.items n.inboxes popped n.out n.run.entries hand in
    let new = c.reserve_letter.new.self in
    let did = c.in_default.ensures in
    record {
      opened = opened_same c.args.script.now c.args.node (Take c.args.sender) n.nodes.items new.nodes.items popped new.inboxes n.out new.out n.run.entries new.run.entries
          opened did.nodes did.letters did.out did.entries;
      room = (
        did.room,
        front_same c.args.script.now c.args.node c.args.sender letter (letter_seen c.reserve_letter.new.letter) popped new.inboxes n.run.entries new.run.entries
            front did.letters did.letter did.entries,
        omega (arith, c.pop_front-letter.ensures.room, did.letters.room),
      );
      send = did.send;
    }

pub returns-in-Err-clause-err : goal.returns-in-Err-clause-err
returns-in-Err-clause-err c =
    let n = c.args.self.now in
    let popped = c.pop_front-letter.new.self in
    let letter = letter_seen c.pop_front-letter.result in
    let hand : InHand c.args.script.now c.args.node c.args.sender letter n.nodes.items n.inboxes popped n.out n.run.entries = record {
      holds = c.requires.holds;
      enabled = c.requires.enabled;
      few = c.requires.few;
      taken = c.pop_front-letter.ensures;
    } in
    let opened = take_opened c.args.script.now c.args.node c.args.sender letter n.nodes.items n.inboxes popped n.out n.run.entries hand in
    let front = mail_is c.args.script.now c.args.node c.args.sender letter n.nodes.items n.inboxes popped n.out n.run.entries hand in
    let new = c.reserve_letter.new.self in
    let did = c.reserve_letter.ensures in
    take_left c.args.script.now c.args.node c.args.sender (letter_seen c.reserve_letter.new.letter) new.nodes.items new.inboxes c.put_front.new.self new.out new.run.entries
    (opened_same c.args.script.now c.args.node (Take c.args.sender) n.nodes.items new.nodes.items popped new.inboxes n.out new.out n.run.entries new.run.entries
    opened did.nodes did.letters did.out did.entries)
    (front_same c.args.script.now c.args.node c.args.sender letter (letter_seen c.reserve_letter.new.letter) popped new.inboxes n.run.entries new.run.entries
    front did.letters did.letter did.entries) c.put_front.ensures
