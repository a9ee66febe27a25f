use Rattle.std.proofs.Common.{◌++◌, take, subst, arith, List, length-append, take_all, length-take}
use Rattle.lt_modes.specs.declared.event.Event.{Event}
use Rattle.lt_tally.specs.LockTable.{IsTallied}
use Rattle.lt_tally.proofs.Telling.{few_held, on_err, one_more}
use Rattle.lt_tally.proofs.tally.apply_all.Goals as goal

pub returns-clause-applied : goal.returns-clause-applied
returns-clause-applied c = λ before tells.
    subst (λ (events : List Event). IsTallied c.args.script.now c.loop-event.tally (before ++ events))
    (take_all c.loop-event.event-index c.args.events.now (omega arith))
    (c.loop-event.invariant before tells)

pub returns-in_err-apply-clause-full : goal.returns-in_err-apply-clause-full
returns-in_err-apply-clause-full c = on_err c.from_residual.result (λ before tells.
    let index = c.loop-event.event-index in
    let events = c.args.events.now in
    let so_far = before ++ take index events in
    let many = c.in_err-apply.ensures.full so_far (c.loop-event.invariant before tells) in
    omega (arith, many, few_held c.args.script.now so_far, length-append before (take index events), length-take index events))

pub loop-event-preserved : goal.loop-event-preserved
loop-event-preserved c = λ before tells.
    subst (λ (events : List Event). IsTallied c.args.script.now c.apply.new.self events)
    (one_more before c.args.events.now c.loop-event.event-index _ c.event-item.is (omega arith))
    (c.in_ok-apply.ensures.applied _ (c.loop-event.invariant before tells))
