use Rattle.std.proofs.Common.{◌≡◌, ◌∙◌, ◌++◌, ap, subst, arith, ℕ, List, take_all}
use Rattle.lt_modes.specs.declared.event.Event.{Event}
use Rattle.lt_tally.specs.LockTable.{IsTallied}
use Rattle.lt_tally.proofs.Telling.{one_more}
use Rattle.lt_journal.specs.RunLines.{line_of_event, line_text}
use Rattle.lt_journal.proofs.Fitting.{list_more, events_text-more}
use Rattle.lt_journal.proofs.journal.event_lines.Goals as goal

pub loop-event-preserved : goal.loop-event-preserved
loop-event-preserved c =
    let script = c.args.wording.now in
    let events = c.args.events.now in
    let index = c.loop-event.event-index in
    let version : c.version-version.result ≡ script.version = cc in
    record {
      text = list_more _ _ _ _ _ _
          (c.in_ok-entry.ensures.text
          ∙ ap (λ (v : ℕ). c.loop-event.text ++ line_text script (line_of_event v c.event-item.result)) version)
          c.loop-event.invariant.text
          (events_text-more script script.version events index _ c.event-item.is (omega arith));
      tally = λ before tells.
          subst (λ (events : List Event). IsTallied script c.entry.new.tally events)
          (one_more before events index _ c.event-item.is (omega arith))
          (c.in_ok-entry.ensures.tally _ (c.loop-event.invariant.tally before tells));
    }

pub returns-clause-tally : goal.returns-clause-tally
returns-clause-tally c = λ before tells.
    subst (λ (events : List Event). IsTallied c.args.wording.now c.loop-event.tally (before ++ events))
    (take_all c.loop-event.event-index c.args.events.now (omega arith))
    (c.loop-event.invariant.tally before tells)
