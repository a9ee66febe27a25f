use Rattle.std.proofs.Common.{refl, arith, slice_index_or}
use Rattle.lt_waits.proofs.BitLemmas.{shared, none_more}
use Rattle.lt_waits.proofs.bits.first_common.Goals as goal

pub returns-then-both-ne0-clause-some : goal.returns-then-both-ne0-clause-some
returns-then-both-ne0-clause-some c =
    let one = shared c.args.words.now c.args.others.now c.loop-word.word (slice_index_or c.args.words.now c.loop-word.word 0) (slice_index_or c.args.others.now c.loop-word.word 0)
    refl refl (omega (arith, c.type_inv.words c.loop-word.word)) c.if-both-ne0.true in
    (omega (arith, one.0, c.loop-word-test.true), one.1.0, one.1.1)

pub loop-word-preserved : goal.loop-word-preserved
loop-word-preserved c =
    none_more c.args.words.now c.args.others.now c.loop-word.word (slice_index_or c.args.words.now c.loop-word.word 0) (slice_index_or c.args.others.now c.loop-word.word 0)
    refl refl c.if-both-ne0.false c.loop-word.invariant
