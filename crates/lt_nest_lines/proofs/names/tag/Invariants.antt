use Rattle.std.proofs.Common.{◌≡◌, ◌<◌, drop}
use Rattle.lt_nest_lines.specs.Tags.{tag_from, tag_of}
use Rattle.lt_nest_lines.proofs.names.tag.Given as goal

abbrev pub invariant-loop-byte : goal.invariant-loop-byte
invariant-loop-byte l = record {
  small : l.tag < 1024;
  same : tag_from l.tag (drop l.byte-index l.word) ≡ tag_of l.word;
}
