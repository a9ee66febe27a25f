-- One event line more is noted.
use Rattle.std.proofs.Common.{◌≡◌, ◌∙◌, length, List, arith, subst, ap}
use Rattle.lt_modes.specs.declared.event.Event.{Event}
use Rattle.lt_desk.specs.DeskData.{OutData}
use Rattle.lt_merge.specs.Merging.{with_events}
use Rattle.lt_merge.proofs.Taking.{length-with_event}
use Rattle.lt_runner.proofs.making.note_events.Goals as goal

pub loop-event-preserved : goal.loop-event-preserved
loop-event-preserved c =
    let first = c.in-Some.ensures.first in
    record {
      noted =
          ap (λ es. with_events es c.next_event.new.self.events) c.add_event.ensures.entries
          ∙ subst (λ (es : List Event). with_events c.loop-event.log.entries es ≡ with_events c.args.log.now.entries c.args.out.now.events) first c.loop-event.invariant.noted;
      some = omega (arith, c.add_event.ensures.gone, ap length c.add_event.ensures.entries, length-with_event c.loop-event.log.entries c.in-Some.event, c.loop-event.invariant.some);
      gone = c.add_event.ensures.gone ∙ c.loop-event.invariant.gone;
      room = omega (arith, ap length first, c.add_event.ensures.room, c.loop-event.invariant.room);
      rest = c.next_event.ensures.rest ∙ ap (λ (o : OutData). record o { events = c.next_event.new.self.events }) c.loop-event.invariant.rest;
    }
