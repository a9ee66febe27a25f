use Rattle.std.proofs.Common.{subst}
use Rattle.lt_desk.specs.LetterSeen.{letter_seen}
use Rattle.lt_world.specs.declared.reserved.Reserved.TheVariants.{Taking}
use Rattle.lt_world.specs.Fields.{IsReserved}
use Rattle.lt_world.proofs.Taking.{take_left}
use Rattle.lt_world.proofs.network.Network.leave.Goals as goal

pub returns-in-Taking-clause-holds : goal.returns-in-Taking-clause-holds
returns-in-Taking-clause-holds c =
    let n = c.args.self.now in
    let letter = c.in-Taking.letter in
    let reserved : IsReserved c.args.script.now n c.args.node (Taking c.in-Taking.sender letter) = subst (IsReserved c.args.script.now n c.args.node) c.in-Taking.is c.requires in
    take_left c.args.script.now c.args.node c.in-Taking.sender (letter_seen letter) n.nodes.items n.inboxes c.put_front.new.self n.out n.run.entries
    reserved.opened reserved.room.1 c.put_front.ensures
