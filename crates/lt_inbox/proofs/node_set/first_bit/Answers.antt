use Rattle.std.proofs.Common.{ℕ, ap, arith, slice_index_or}
use Rattle.lt_inbox.proofs.Bits.{first_mask, later_mask, bit_found, no_bit_here, no_bit_left}
use Rattle.lt_inbox.proofs.node_set.first_bit.Goals as goal

pub loop-word-init : goal.loop-word-init
loop-word-init c = record { mask = first_mask c.args.from; none = λ i h less. absurd (omega (arith, h, less)) }

pub returns-then-here-ne0-clause-some : goal.returns-then-here-ne0-clause-some
returns-then-here-ne0-clause-some c =
    bit_found c.args.words.now c.args.from c.loop-word.word (slice_index_or c.args.words.now c.from.result 0) c.loop-word.mask c.loop-word-test.true
    (ap (λ (j : ℕ). slice_index_or c.args.words.now j 0) c.from.ensures) (c.fits-words c.from.result) c.if-here-ne0.true c.loop-word.invariant.mask c.loop-word.invariant.none

pub loop-word-preserved : goal.loop-word-preserved
loop-word-preserved c = record {
  mask = later_mask c.args.from c.loop-word.word c.loop-word.auto.word;
  none =
      no_bit_here c.args.words.now c.args.from c.loop-word.word (slice_index_or c.args.words.now c.from.result 0) c.loop-word.mask
      (ap (λ (j : ℕ). slice_index_or c.args.words.now j 0) c.from.ensures) c.if-here-ne0.false c.loop-word.invariant.mask c.loop-word.invariant.none;
}

pub returns-clause-none : goal.returns-clause-none
returns-clause-none c = no_bit_left c.args.words.now c.args.from c.loop-word.word c.told-words (omega (arith, c.loop-word-test.false)) c.loop-word.invariant.none
