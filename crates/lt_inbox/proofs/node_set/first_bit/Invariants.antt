use Rattle.lt_inbox.proofs.Bits.{IsMaskFrom, NoBitBefore}
use Rattle.lt_inbox.proofs.node_set.first_bit.Given as goal

abbrev pub invariant-loop-word : goal.invariant-loop-word
invariant-loop-word l = record {
  mask : IsMaskFrom l.from l.word l.mask;
  none : NoBitBefore l.words l.from l.word;
}
