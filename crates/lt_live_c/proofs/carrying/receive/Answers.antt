-- The number that C gave is that of another node.
use Rattle.lt_live_c.proofs.Receiving.{received_from}
use Rattle.lt_live_c.proofs.carrying.receive.Goals as goal

pub returns-in-Some : goal.returns-in-Some
returns-in-Some c = rw c.in-Node.is
    (received_from c.receive.result c.in-Some.peer c.args.from c.args.used.now c.receive.new.used c.args.bytes.now
    c.in-Node.node c.receive.new.self c.in-Some.ensures.some.0 c.in-Some.ensures.some.1 c.receive.ensures)
