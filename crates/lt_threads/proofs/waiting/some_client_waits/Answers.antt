use Rattle.std.proofs.Common.{◌≡◌, ◌<◌, ◌∙◌, true, length, arith, sym}
use Rattle.lt_lists.proofs.Searches.{any_below_at}
use Rattle.lt_spec.specs.World.{is_waiting}
use Rattle.lt_threads.specs.Meeting.{crew_world}
use Rattle.lt_threads.proofs.waiting.some_client_waits.Goals as goal

pub returns-then-client_waits : goal.returns-then-client_waits
returns-then-client_waits c =
    let script = c.args.script.now in
    let w = crew_world script c.args.runners.now in
    let waiting : is_waiting script w c.loop-client.client ≡ true = sym c.client_waits.ensures ∙ c.if-client_waits.true in
    let inside : c.loop-client.client < length script.clients = omega (arith, c.loop-client-test.true, c.clients-client-end.ensures.clients) in
    sym (any_below_at (length script.clients) c.loop-client.client (is_waiting script w) inside waiting)
