use Rattle.std.proofs.Common.{◌∙◌, Bool, ap, arith, is_some, refl, subst, sym}
use Rattle.lt_mail.specs.Telling.{GrewIf}
use Rattle.lt_mail.proofs.TellingLemmas.{grew_join}
use Rattle.lt_modes.specs.declared.event.Event.{Event}
use Rattle.lt_live.specs.Seats.{reply_to}
use Rattle.lt_live.specs.Words.{told_to}
use Rattle.lt_live.proofs.Marking.{line_grew, same_line}
use Rattle.lt_live.proofs.Telling.{told_next, only_tells_join}
use Rattle.lt_live.proofs.ends.Seat.answer_move.Goals as goal

pub loop-self-preserved : goal.loop-self-preserved
loop-self-preserved c =
    let told = c.if-not-tell_next.ensures in
    let before = c.loop-self.invariant in
    record {
      rest = only_tells_join c.args.self.now c.loop-self.self c.tell_next.new.self before.rest told.rest;
      moves = told.moves ∙ before.moves;
      told = λ replies so. told_next c.args.self.now.client c.loop-self.self.client c.args.lines.now c.loop-self.self.lines c.tell_next.new.self.lines c.index-lines-self-in-loop-self.result replies
          (told_to c.loop-self.self) (told_to c.tell_next.new.self) c.loop-self-test.true c.index-lines-self-in-loop-self.is told.lines before.rest.same.client (before.told replies so) told.told;
      waits = told.waits ∙ before.waits;
      within = omega (arith, told.lines, c.loop-self-test.true);
      grew = subst (λ (t : Bool). GrewIf t (told_to c.args.self.now) (told_to c.tell_next.new.self)) (sym c.either-told.ensures)
          (grew_join c.loop-self.told c.is_reply_to-said.result (told_to c.args.self.now) (told_to c.loop-self.self) (told_to c.tell_next.new.self) before.grew
          (line_grew c.loop-self.self.client c.loop-self.self.client c.index-lines-self-in-loop-self.result c.is_reply_to-said.result (told_to c.loop-self.self)
          (told_to c.tell_next.new.self) refl told.told
          (c.is_reply_to-said.ensures ∙ ap (λ (line : Event). is_some (reply_to c.loop-self.self.client line))
          (same_line c.args.lines.now c.loop-self.self.lines c.index-lines-self.result c.index-lines-self-in-loop-self.result c.loop-self-test.true
          c.index-lines-self.is c.index-lines-self-in-loop-self.is))));
    }
