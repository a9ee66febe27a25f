use Rattle.lt_waits.proofs.BitLemmas.{NoneShared}
use Rattle.lt_waits.proofs.bits.first_common.Given as goal

abbrev pub invariant-loop-word : goal.invariant-loop-word
invariant-loop-word l = NoneShared l.words l.others l.word
