use Rattle.lt_node.proofs.CommandLemmas.{have_first}
use Rattle.lt_node.proofs.commands.Commands.new.Goals as goal

pub add_requests-requires-clause-count : goal.add_requests-requires-clause-count
add_requests-requires-clause-count c = c.in_ok-lists.ensures.count

pub add_requests-requires-clause-idle : goal.add_requests-requires-clause-idle
add_requests-requires-clause-idle c = c.in_ok-lists.ensures.idle

pub returns : goal.returns
returns c =
    have_first c.args.script.now c.add_requests.new.lists.items c.in_ok-homes.homes.items c.in_ok-homes.ensures.script c.in_ok-add_requests.ensures.count c.in_ok-add_requests.ensures.each
    c.in_ok-homes.ensures.homes
