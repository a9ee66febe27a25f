use Rattle.std.proofs.Common.{arith}
use Rattle.lt_io.proofs.Pieces.{copied_front}
use Rattle.lt_io.proofs.sure.copy_front.Goals as goal

pub returns-clause-copied : goal.returns-clause-copied
returns-clause-copied c = copied_front c.args.bytes.now _ _ c.args.at c.min.result c.min-count.result c.min.ensures (omega (arith, c.min-count.ensures)) c.copy_from_slice.ensures.after
