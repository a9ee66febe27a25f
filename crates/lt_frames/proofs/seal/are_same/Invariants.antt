use Rattle.std.proofs.Common.{◌≡◌, ◌==◌, take}
use Rattle.lt_frames.specs.Sealing.{same_bytes}
use Rattle.lt_frames.proofs.seal.are_same.Given as goal

abbrev pub invariant-loop-k : goal.invariant-loop-k
invariant-loop-k l = (l.differences == 0) ≡ same_bytes (take l.k l.one) (take l.k l.other)
