use Rattle.std.proofs.Common.{◌∙◌, arith}
use Rattle.lt_live.specs.Words.{told_to}
use Rattle.lt_live.proofs.Telling.{told_next, only_tells_join}
use Rattle.lt_live.proofs.ends.Seat.tell_move.Goals as goal

pub loop-self-preserved : goal.loop-self-preserved
loop-self-preserved c =
    let told = c.if-not-tell_next.ensures in
    let before = c.loop-self.invariant in
    record {
      rest = only_tells_join c.args.self.now c.loop-self.self c.tell_next.new.self before.rest told.rest;
      moves = told.moves ∙ before.moves;
      told = λ replies so. told_next c.args.self.now.client c.loop-self.self.client c.args.lines.now c.loop-self.self.lines c.tell_next.new.self.lines c.index-lines-self.result replies
          (told_to c.loop-self.self) (told_to c.tell_next.new.self) c.loop-self-test.true c.index-lines-self.is told.lines before.rest.same.client (before.told replies so) told.told;
      waits = told.waits ∙ before.waits;
      within = omega (arith, told.lines, c.loop-self-test.true);
    }
