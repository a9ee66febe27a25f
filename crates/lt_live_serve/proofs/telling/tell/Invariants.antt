-- The caller polled further replies.
use Rattle.std.proofs.Common.{◌-◌, length}
use Rattle.lt_spec.specs.Holdings.{lines_of}
use Rattle.lt_live.specs.Seats.{replies_in}
use Rattle.lt_live_serve.specs.Completing.{Hears}
use Rattle.lt_live_serve.proofs.telling.tell.Given as goal

abbrev pub invariant-loop : goal.invariant-loop
invariant-loop l = Hears l.initial.station l.initial.caller l.station l.caller

abbrev pub decreases-loop : goal.decreases-loop
decreases-loop l =
    length (replies_in l.initial.caller.session.client (lines_of l.initial.station.runner.log.entries)) - length l.caller.heard.items
