use Rattle.std.proofs.Common.{take, take_all, subst, arith, List}
use Rattle.lt_modes.specs.declared.event.Event.{Event}
use Rattle.lt_spec.specs.World.{Logged}
use Rattle.lt_spec.specs.Holdings.{lines_of}
use Rattle.lt_tally.specs.LockTable.{IsTallied}
use Rattle.lt_tally.proofs.Telling.{lines_of-more, events_up_to, on_err}
use Rattle.lt_tally.proofs.tally.apply_run.Goals as goal

pub loop-k-preserved : goal.loop-k-preserved
loop-k-preserved c =
    subst (λ (events : List Event). IsTallied c.args.script.now c.apply_all.new.tally events)
    (lines_of-more c.args.run.now.entries c.loop-k.k _ c.events.ensures)
    (c.in_ok-apply_all.ensures.applied _ c.loop-k.invariant)

pub returns-in_err-apply_all-clause-full : goal.returns-in_err-apply_all-clause-full
returns-in_err-apply_all-clause-full c = on_err c.from_residual.result (
    let entries = c.args.run.now.entries in
    let k = c.loop-k.k in
    let many = c.in_err-apply_all.ensures.full (lines_of (take k entries)) c.loop-k.invariant in
    omega (arith, many, events_up_to entries k _ c.events.ensures))

pub returns : goal.returns
returns c = record {
  applied = subst (λ (entries : List Logged). IsTallied c.args.script.now c.loop-k.tally (lines_of entries))
      (take_all c.loop-k.k c.args.run.now.entries (omega arith)) c.loop-k.invariant;
  full = tt;
}
