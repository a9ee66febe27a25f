-- The client's next command is a move of the runner.
use Rattle.lt_spec.specs.Plays.{OfClient}
use Rattle.lt_spec.specs.NodeMove.{node_act}
use Rattle.lt_node.specs.NodeData.{state_of}
use Rattle.lt_runner.proofs.KeptLemmas.{kept_moved, moves_send}
use Rattle.lt_runner.proofs.MoveLemmas.{acts_now, acted, posts_for_peers}
use Rattle.lt_runner.proofs.parts.Parts.make_act.Goals as goal

pub act-requires-clause-client : goal.act-requires-clause-client
act-requires-clause-client c = (acts_now c.args.self.now c.args.client c.requires.kept c.requires.chosen).runs.known

pub act-requires-clause-home : goal.act-requires-clause-home
act-requires-clause-home c = (acts_now c.args.self.now c.args.client c.requires.kept c.requires.chosen).runs.home

pub act-requires-clause-runnable : goal.act-requires-clause-runnable
act-requires-clause-runnable c = (acts_now c.args.self.now c.args.client c.requires.kept c.requires.chosen).runs.runs

pub act-requires-clause-within : goal.act-requires-clause-within
act-requires-clause-within c = (acts_now c.args.self.now c.args.client c.requires.kept c.requires.chosen).chosen.room

pub finish_move-requires-clause-peers : goal.finish_move-requires-clause-peers
finish_move-requires-clause-peers c =
    posts_for_peers c.args.self.now c.act.new.self c.act.new.out (node_act c.args.self.now.node.script c.args.self.now.node.me c.args.client (state_of c.args.self.now.node))
    c.requires.kept.posts (acts_now c.args.self.now c.args.client c.requires.kept c.requires.chosen).reaches c.act.ensures.does

pub returns-clause-kept : goal.returns-clause-kept
returns-clause-kept c =
    kept_moved c.args.self.now _ (OfClient c.args.client) c.requires.kept
    (acted c.args.self.now _ c.act.new.self c.act.new.out c.args.client c.requires.kept c.requires.chosen c.act.ensures.does
    (rw (← c.stamp_of_act-stamp.ensures) c.finish_move.ensures.finished) c.requires.place c.finish_move.ensures.idle)

pub returns-clause-sent : goal.returns-clause-sent
returns-clause-sent c =
    moves_send c.args.self.now c.finish_move.new.self (OfClient c.args.client)
    (acted c.args.self.now c.finish_move.new.self c.act.new.self c.act.new.out c.args.client c.requires.kept c.requires.chosen c.act.ensures.does
    (rw (← c.stamp_of_act-stamp.ensures) c.finish_move.ensures.finished) c.requires.place c.finish_move.ensures.idle)
