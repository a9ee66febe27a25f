use Rattle.std.proofs.Common.{◌≡◌, ◌∙◌, List, ℕ, ap, arith, length, subst, sym}
use Rattle.lt_modes.specs.declared.command.Command.{Command}
use Rattle.lt_node.specs.Clients.{HaveFirst}
use Rattle.lt_node.proofs.RequestLemmas.{none_yet, homes_count, home_of_request, one_more}
use Rattle.lt_node.proofs.client.add_requests.Goals as goal

pub add_request-requires-clause-client : goal.add_request-requires-clause-client
add_request-requires-clause-client c =
    home_of_request c.args.script.now c.args.homes.now c.loop-place.place c.requests-requests.result.now _ c.requires.script c.requires.homes c.requests-requests.ensures.requests c.loop-place-test.true

pub add_request-requires-clause-count : goal.add_request-requires-clause-count
add_request-requires-clause-count c = c.loop-place.invariant.count ∙ sym (homes_count c.args.script.now c.args.homes.now c.requires.homes)

pub loop-place-preserved : goal.loop-place-preserved
loop-place-preserved c =
    let more = one_more c.args.script.now c.args.homes.now c.args.node c.loop-place.place c.requests-requests.result.now _ c.loop-place.clients.items c.add_request.new.clients.items
    c.requires.script c.requires.homes c.requests-requests.ensures.requests c.loop-place-test.true c.loop-place.invariant.count c.loop-place.invariant.first c.in_ok-add_request.ensures in
    record { count = more.0; first = more.1 }

pub loop-place-init : goal.loop-place-init
loop-place-init c = record { count = c.requires.count; first = none_yet c.args.script.now c.args.node c.args.clients.now.items c.requires.idle }

pub returns-clause-count : goal.returns-clause-count
returns-clause-count c = c.loop-place.invariant.count

pub returns-clause-each : goal.returns-clause-each
returns-clause-each c =
    let count = ap (λ (l : List (ℕ × Command)). length l) c.requests-requests.ensures.requests in
    let all : c.loop-place.place ≡ length c.args.script.now.commands = omega (arith, c.loop-place-test.false, c.loop-place.auto.place-end, count) in
    subst (λ (n : ℕ). HaveFirst c.args.script.now c.args.node n c.loop-place.clients.items) all c.loop-place.invariant.first
