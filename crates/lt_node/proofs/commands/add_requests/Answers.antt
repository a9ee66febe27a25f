use Rattle.std.proofs.Common.{◌≡◌, List, ℕ, ap, arith, length, subst}
use Rattle.lt_modes.specs.declared.command.Command.{Command}
use Rattle.lt_node.specs.Clients.{HaveAmong}
use Rattle.lt_node.proofs.CommandLemmas.{none_among, list_of_request, request_met}
use Rattle.lt_node.proofs.commands.add_requests.Goals as goal

pub add_request-requires : goal.add_request-requires
add_request-requires c =
    list_of_request c.args.script.now c.loop-place.place c.requests-requests.result.now _ c.loop-place.lists.items c.requests-requests.ensures.kept c.requests-requests.ensures.requests c.loop-place-test.true c.loop-place.invariant.count

pub loop-place-preserved : goal.loop-place-preserved
loop-place-preserved c =
    let more = request_met c.args.script.now c.loop-place.place c.requests-requests.result.now _ c.loop-place.lists.items c.add_request.new.lists.items
    c.requests-requests.ensures.kept c.requests-requests.ensures.requests c.loop-place-test.true c.loop-place.invariant.count c.loop-place.invariant.among c.in_ok-add_request.ensures in
    record { count = more.0; among = more.1 }

pub loop-place-init : goal.loop-place-init
loop-place-init c = record { count = c.requires.count; among = none_among c.args.script.now c.args.lists.now.items c.requires.idle }

pub returns-clause-count : goal.returns-clause-count
returns-clause-count c = c.loop-place.invariant.count

pub returns-clause-each : goal.returns-clause-each
returns-clause-each c =
    let count = ap (λ (l : List (ℕ × Command)). length l) c.requests-requests.ensures.requests in
    let all : c.loop-place.place ≡ length c.args.script.now.commands = omega (arith, c.loop-place-test.false, c.loop-place.auto.place-end, count) in
    subst (λ (n : ℕ). HaveAmong c.args.script.now n c.loop-place.lists.items) all c.loop-place.invariant.among
