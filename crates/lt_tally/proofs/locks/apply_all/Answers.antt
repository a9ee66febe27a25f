use Rattle.std.proofs.Common.{◌∙◌, List, ap, sym, arith, fold, take, take_all}
use Rattle.std.proofs.lemmas.List.Sums.{fold_more}
use Rattle.lt_modes.specs.declared.event.Event.{Event}
use Rattle.lt_spec.specs.Holdings.{Holding, after_line}
use Rattle.lt_tally.proofs.locks.apply_all.Goals as goal

pub loop-event-preserved : goal.loop-event-preserved
loop-event-preserved c =
    let step = after_line c.args.script.now in
    let events = c.args.events.now in
    let index = c.loop-event.event-index in
    let event = c.event-item.result in
    c.in_ok-apply.ensures
    ∙ ap (λ (held : List Holding). step held event) c.loop-event.invariant
    ∙ ap (λ (e : Event). step (fold step c.args.held.now.items (take index events)) e) c.event-item.is
    ∙ sym (fold_more step c.args.held.now.items events index event (omega arith))

pub returns : goal.returns
returns c =
    c.loop-event.invariant
    ∙ ap (λ (events : List Event). fold (after_line c.args.script.now) c.args.held.now.items events)
    (take_all c.loop-event.event-index c.args.events.now (omega arith))
