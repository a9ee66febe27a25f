use Rattle.lt_live.proofs.ReadLemmas.{reads_line}
use Rattle.lt_live.proofs.ends.Seat.read_move.Goals as goal

pub loop-self-preserved : goal.loop-self-preserved
loop-self-preserved c =
    reads_line c.args.lines.now c.index-lines-self.result c.args.self.now c.loop-self.self c.read_next.new.self c.loop-self.invariant c.loop-self-test.true
    c.index-lines-self.is c.in_ok-read_next.ensures.ok
