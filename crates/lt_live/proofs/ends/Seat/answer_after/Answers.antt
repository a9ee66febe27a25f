use Rattle.std.proofs.Common.{Bor, IfSome, Option, refl, subst}
use Rattle.lt_modes.specs.declared.event.Event.{Event}
use Rattle.lt_live.specs.Seats.{IsLastLine}
use Rattle.lt_live.proofs.Passing.{passes_on}
use Rattle.lt_live.proofs.ends.Seat.answer_after.Goals as goal

pub returns-in-Some-clause-tells : goal.returns-in-Some-clause-tells
returns-in-Some-clause-tells c =
    passes_on c.args.log.now.entries c.in-Some.line.now c.args.self.now c.len-self.result c.requires.cursor.0
    (subst (λ (o : Option (Bor Event)). IfSome o (λ (line : Bor Event). IsLastLine c.args.log.now.entries line.now)) c.in-Some.is c.requires.only)
    (c.if-passes.ensures.waits refl) (c.if-passes.ensures.moves refl) (c.if-passes.ensures.lines refl)
    (c.if-passes.ensures.silent refl) c.len-self.ensures
