use Rattle.std.proofs.Common.{Bool, arith, inr, ◌<◌, length, ap, subst, sym, ◌∙◌}
use Rattle.lt_mail.proofs.TellingLemmas.{grew_join}
use Rattle.lt_mail.specs.Telling.{GrewIf}
use Rattle.lt_merge.specs.Merging.{events_at}
use Rattle.lt_live.specs.Seats.{MoveEnds}
use Rattle.lt_live.specs.Words.{told_to}
use Rattle.lt_live.proofs.Telling.{tells_move, tells_next}
use Rattle.lt_live.proofs.ends.Seat.answer_further.Goals as goal

pub returns-then-not-all-clause-tells : goal.returns-then-not-all-clause-tells
returns-then-not-all-clause-tells c =
    let before = c.loop-self.invariant in
    let move = c.answer_move-all.ensures.tells in
    let inside : c.loop-self.self.moves < length c.args.log.now.entries = omega (arith, c.loop-self-test.true, c.len.ensures) in
    record {
      on = tells_move c.args.log.now.entries c.events.result.now _ c.args.self.now c.loop-self.self c.answer_move-all.new.self before.on before.empty inside c.events.ensures
          move;
      stops = inr (subst (λ (t : Bool). MoveEnds t c.events.result.now c.answer_move-all.new.self) c.if-not-all.true move.ends);
    }

pub returns-then-not-all-clause-told : goal.returns-then-not-all-clause-told
returns-then-not-all-clause-told c =
    subst (λ (t : Bool). GrewIf t (told_to c.args.self.now) (told_to c.answer_move-all.new.self)) (sym c.either-told.ensures)
    (grew_join c.loop-self.told c.answer_move-all.result.1 (told_to c.args.self.now) (told_to c.loop-self.self) (told_to c.answer_move-all.new.self)
    c.loop-self.invariant.grew c.answer_move-all.ensures.told)

pub loop-self-preserved : goal.loop-self-preserved
loop-self-preserved c =
    let log = c.args.log.now.entries in
    let before = c.loop-self.invariant in
    let move = c.answer_move-all.ensures.tells in
    let inside : c.loop-self.self.moves < length log = omega (arith, c.loop-self-test.true, c.len.ensures) in
    let on = tells_move log c.events.result.now _ c.args.self.now c.loop-self.self c.answer_move-all.new.self before.on before.empty inside c.events.ensures move in
    record {
      on = tells_next log c.events.result.now c.args.self.now c.answer_move-all.new.self on (omega (arith, inside, move.moves))
          (ap (events_at log) move.moves ∙ c.events.ensures)
          (subst (λ (t : Bool). MoveEnds t c.events.result.now c.answer_move-all.new.self) c.if-not-all.false move.ends);
      empty = move.waits ∙ before.empty;
      grew = subst (λ (t : Bool). GrewIf t (told_to c.args.self.now) (told_to c.answer_move-all.new.self)) (sym c.either-told.ensures)
          (grew_join c.loop-self.told c.answer_move-all.result.1 (told_to c.args.self.now) (told_to c.loop-self.self) (told_to c.answer_move-all.new.self)
          before.grew c.answer_move-all.ensures.told);
    }
