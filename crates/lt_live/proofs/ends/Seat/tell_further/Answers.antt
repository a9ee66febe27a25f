use Rattle.std.proofs.Common.{arith, inr, ◌<◌, length, ap, ◌∙◌}
use Rattle.lt_merge.specs.Merging.{events_at}
use Rattle.lt_live.proofs.Telling.{tells_move, tells_next}
use Rattle.lt_live.proofs.ends.Seat.tell_further.Goals as goal

pub returns-then-not-tell_move : goal.returns-then-not-tell_move
returns-then-not-tell_move c =
    let before = c.loop-self.invariant in
    let inside : c.loop-self.self.moves < length c.args.log.now.entries = omega (arith, c.loop-self-test.true, c.len.ensures) in
    record {
      on = tells_move c.args.log.now.entries c.events.result.now _ c.args.self.now c.loop-self.self c.tell_move.new.self before.on before.empty inside c.events.ensures
          c.tell_move.ensures;
      stops = inr c.if-not-tell_move.ensures.ends;
    }

pub loop-self-preserved : goal.loop-self-preserved
loop-self-preserved c =
    let log = c.args.log.now.entries in
    let before = c.loop-self.invariant in
    let inside : c.loop-self.self.moves < length log = omega (arith, c.loop-self-test.true, c.len.ensures) in
    let on = tells_move log c.events.result.now _ c.args.self.now c.loop-self.self c.tell_move.new.self before.on before.empty inside c.events.ensures c.tell_move.ensures in
    record {
      on = tells_next log c.events.result.now c.args.self.now c.tell_move.new.self on (omega (arith, inside, c.tell_move.ensures.moves))
          (ap (events_at log) c.tell_move.ensures.moves ∙ c.events.ensures) c.if-not-tell_move.ensures.ends;
      empty = c.tell_move.ensures.waits ∙ before.empty;
    }
