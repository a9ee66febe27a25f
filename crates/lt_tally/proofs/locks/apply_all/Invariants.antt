use Rattle.std.proofs.Common.{◌≡◌, take, fold}
use Rattle.lt_spec.specs.Holdings.{after_line}
use Rattle.lt_tally.proofs.locks.apply_all.Given as goal

abbrev pub invariant-loop-event : goal.invariant-loop-event
invariant-loop-event l = l.held.items ≡ fold (after_line l.script) l.fn.held.items (take l.event-index l.events)
