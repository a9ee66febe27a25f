use Rattle.lt_frames.proofs.Same.{all_folded}
use Rattle.lt_frames.proofs.seal.are_same.Goals as goal

pub returns : goal.returns
returns c = all_folded c.args.one.now c.args.other.now c.loop-k.k c.loop-k.differences c.requires c.loop-k-test.false c.loop-k.invariant
