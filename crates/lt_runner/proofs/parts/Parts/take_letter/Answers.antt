-- The letter's take is a move of the runner that had it in hand.
use Rattle.std.proofs.Common.{refl, Some}
use Rattle.lt_desk.specs.LetterSeen.{letter_seen}
use Rattle.lt_spec.specs.Plays.{OfLetter}
use Rattle.lt_spec.specs.NodeMove.{node_take}
use Rattle.lt_node.specs.NodeData.{state_of}
use Rattle.lt_runner.proofs.KeptLemmas.{kept_moved, moves_send}
use Rattle.lt_runner.proofs.MoveLemmas.{take_reaches, took, posts_for_peers}
use Rattle.lt_runner.proofs.parts.Parts.take_letter.Goals as goal

pub finish_move-requires-clause-peers : goal.finish_move-requires-clause-peers
finish_move-requires-clause-peers c =
    posts_for_peers (record c.args.self.now { hand = Some c.args.hand }) c.take.new.self c.take.new.out
    (node_take c.args.self.now.node.me (letter_seen c.args.hand.letter) (state_of c.args.self.now.node))
    c.requires.kept.posts (take_reaches (record c.args.self.now { hand = Some c.args.hand }) c.args.hand c.requires.kept c.requires.fits) c.take.ensures.does

pub returns-clause-kept : goal.returns-clause-kept
returns-clause-kept c =
    kept_moved (record c.args.self.now { hand = Some c.args.hand }) _ (OfLetter c.args.hand.from (letter_seen c.args.hand.letter)) c.requires.kept
    (took (record c.args.self.now { hand = Some c.args.hand }) _ c.take.new.self c.take.new.out c.args.hand c.args.self.now.hand c.requires.kept refl
    c.requires.empty c.requires.fits c.take.ensures.does
    (rw (← c.stamp_of_take-stamp.ensures) c.finish_move.ensures.finished) c.requires.place c.finish_move.ensures.idle)

pub returns-clause-sent : goal.returns-clause-sent
returns-clause-sent c =
    moves_send (record c.args.self.now { hand = Some c.args.hand }) c.finish_move.new.self (OfLetter c.args.hand.from (letter_seen c.args.hand.letter))
    (took (record c.args.self.now { hand = Some c.args.hand }) c.finish_move.new.self c.take.new.self c.take.new.out c.args.hand c.args.self.now.hand c.requires.kept refl
    c.requires.empty c.requires.fits c.take.ensures.does
    (rw (← c.stamp_of_take-stamp.ensures) c.finish_move.ensures.finished) c.requires.place c.finish_move.ensures.idle)
