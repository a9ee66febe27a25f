-- What is asked of a client that can act.
use Rattle.lt_node.specs.NodeData.{state_of}
use Rattle.lt_runner.proofs.ChoiceLemmas.{is_runnable}
use Rattle.lt_runner.proofs.choice.may_act.Goals as goal

pub leaves_room_to_act-requires-clause-client : goal.leaves_room_to_act-requires-clause-client
leaves_room_to_act-requires-clause-client c =
    (is_runnable c.args.node.now.script c.args.node.now.me (state_of c.args.node.now) c.args.client c.requires).known

pub leaves_room_to_act-requires-clause-home : goal.leaves_room_to_act-requires-clause-home
leaves_room_to_act-requires-clause-home c =
    (is_runnable c.args.node.now.script c.args.node.now.me (state_of c.args.node.now) c.args.client c.requires).home

pub leaves_room_to_act-requires-clause-left : goal.leaves_room_to_act-requires-clause-left
leaves_room_to_act-requires-clause-left c =
    (is_runnable c.args.node.now.script c.args.node.now.me (state_of c.args.node.now) c.args.client c.requires).left
