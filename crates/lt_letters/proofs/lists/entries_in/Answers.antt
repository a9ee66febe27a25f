use Rattle.std.proofs.Common.{take}
use Rattle.lt_table.specs.Seen.{entry_seen}
use Rattle.lt_letters.specs.Reading.{many_from, entry_from}
use Rattle.lt_letters.proofs.Loop.{ends, set_goes_on, set_is_done}
use Rattle.lt_letters.proofs.lists.entries_in.Goals as goal

pub returns-in-Err-clause-value : goal.returns-in-Err-clause-value
returns-in-Err-clause-value c =
    ends entry_from c.in-Err.error (take c.loop-node.node c.loop-node.table.entries) c.args.nodes c.loop-node.node c.loop-node.rest.now (many_from entry_from c.args.nodes c.args.bytes.now)
    c.loop-node-test.true c.in-Err.ensures c.loop-node.invariant.1

pub loop-node-preserved : goal.loop-node-preserved
loop-node-preserved c =
    set_goes_on entry_from c.loop-node.table.entries c.set.new.self.entries c.args.nodes c.loop-node.node c.loop-node.rest.now (entry_seen c.in-Ok.read.0) c.in-Ok.read.1.now
    (many_from entry_from c.args.nodes c.args.bytes.now) c.set.ensures c.loop-node.invariant.0 c.loop-node-test.true c.in-Ok.ensures c.loop-node.invariant.1

pub returns-clause-value : goal.returns-clause-value
returns-clause-value c =
    set_is_done entry_from c.loop-node.table.entries c.args.nodes c.loop-node.node c.loop-node.rest.now (many_from entry_from c.args.nodes c.args.bytes.now)
    c.loop-node.invariant.0 c.loop-node-test.false c.loop-node.invariant.1
