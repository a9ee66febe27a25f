-- One caller after the other is asked.
use Rattle.std.proofs.Common.{true≢false, sym, ◌∙◌, arith}
use Rattle.lt_live_callers.specs.Desks.{IsAsked}
use Rattle.lt_live_callers.proofs.Asked.{none_over, more_over, all_are_over, all_said, asked_go}
use Rattle.lt_live_callers.proofs.Places.{first_none, first_more, first_all}
use Rattle.lt_live_callers.proofs.desk.all_over.Goals.{then-ask_at, else-ask_at}
use Rattle.lt_live_callers.proofs.desk.all_over.Goals as goal

pub ask_at-requires : goal.ask_at-requires
ask_at-requires g c = let count = c.loop-place.invariant.asked.count in omega (arith, count)

pub loop-place-init : goal.loop-place-init
loop-place-init g c = record {
  asked = first_none (IsAsked g.C.Caller.says) c.args.desks.now.items;
  over = λ is. none_over c.args.desks.now.items;
}

pub loop-place-preserved : goal.loop-place-preserved
loop-place-preserved g c = record {
  asked = first_more (IsAsked g.C.Caller.says) c.loop-place.place c.args.desks.now.items c.loop-place.desks.items c.ask_at.new.desks.items
      c.loop-place.invariant.asked c.ask_at.ensures.asked;
  over = λ is. elim c.if-ask_at.branch [
    | then-ask_at w ↦
        more_over g.C.Caller.says c.loop-place.place c.loop-place.desks.items c.ask_at.new.desks.items c.ask_at.ensures.asked
        (c.ask_at.ensures.over w.if-ask_at.true) (c.loop-place.invariant.over (sym w.over-is ∙ is))
    | else-ask_at w ↦ absurd (true≢false (sym is ∙ w.over-is ∙ w.if-ask_at.false))
  ];
}

pub returns-clause-desks : goal.returns-clause-desks
returns-clause-desks g c =
    asked_go g.C.Caller.goes g.C.Caller.says c.args.desks.now.items c.loop-place.desks.items
    (first_all (IsAsked g.C.Caller.says) c.loop-place.place c.args.desks.now.items c.loop-place.desks.items (omega arith) c.loop-place.invariant.asked)

pub returns-clause-said : goal.returns-clause-said
returns-clause-said g c =
    all_said g.C.Caller.says c.args.desks.now.items c.loop-place.desks.items
    (first_all (IsAsked g.C.Caller.says) c.loop-place.place c.args.desks.now.items c.loop-place.desks.items (omega arith) c.loop-place.invariant.asked)

pub returns-clause-over : goal.returns-clause-over
returns-clause-over g c is =
    all_are_over c.loop-place.place c.loop-place.desks.items (let count = c.loop-place.invariant.asked.count in omega (arith, count)) (c.loop-place.invariant.over is)
