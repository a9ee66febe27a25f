-- What was read so far is what the source gave, and the last line in it begins at its place.
use Rattle.std.proofs.Common.{◌≡◌, ◌≤◌, ◌-◌, length, take, vec_len}
use Rattle.lt_io.specs.Streams.{ReadsOn}
use Rattle.lt_checker.specs.Heads.{IsLastLine}
use Rattle.lt_text.specs.Text.{lines}
use Rattle.lt_checker.specs.declared.limits.TheConstants.{MAX_JOURNAL}
use Rattle.lt_checker.proofs.head.read_head.Given as goal

abbrev pub invariant-loop-bytes : goal.invariant-loop-bytes
invariant-loop-bytes g l = record {
  read : ReadsOn l.bytes.items (g.S.Source.state l.initial.source) (g.S.Source.state l.source);
  no_longer : vec_len l.bytes ≤ MAX_JOURNAL;
  place : l.last.place ≤ vec_len l.bytes;
  line : IsLastLine l.bytes.items l.last.place;
  before : l.last.before ≡ length (lines (take l.last.place l.bytes.items));
}

abbrev pub decreases-loop-bytes : goal.decreases-loop-bytes
decreases-loop-bytes g l = MAX_JOURNAL - vec_len l.bytes
