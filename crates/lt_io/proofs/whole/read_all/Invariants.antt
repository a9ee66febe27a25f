-- What was read so far is what the source gave, and none of it was an end.
use Rattle.std.proofs.Common.{◌≤◌, ◌-◌, vec_len}
use Rattle.lt_io.specs.Streams.{ReadsOn}
use Rattle.lt_io.proofs.whole.read_all.Given as goal

abbrev pub invariant-loop-bytes : goal.invariant-loop-bytes
invariant-loop-bytes g l = record {
  read : ReadsOn l.bytes.items (g.S.Source.state l.initial.source) (g.S.Source.state l.source);
  no_longer : vec_len l.bytes ≤ l.limit;
}

abbrev pub decreases-loop-bytes : goal.decreases-loop-bytes
decreases-loop-bytes g l = l.limit - vec_len l.bytes
