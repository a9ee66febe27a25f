use Rattle.lt_counts.proofs.Adding.{adds_next_move, taken_next}
use Rattle.lt_counts.proofs.counting.count_on.Goals as goal

pub loop-place-preserved : goal.loop-place-preserved
loop-place-preserved c = (
  adds_next_move c.args.log.now.entries c.args.from c.loop-place.place c.args.counts.now c.loop-place.counts c.count_move.new.counts c.loop-place.auto.place
      c.loop-place.invariant.0 c.count_move.ensures.counts,
  taken_next c.args.log.now.entries c.args.from c.loop-place.place c.args.taken.now c.loop-place.taken c.count_move.new.taken c.loop-place.auto.place
      c.loop-place.invariant.1 c.count_move.ensures.taken,
)
