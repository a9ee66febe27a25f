-- The look, and then the move.
use Rattle.std.proofs.Common.{refl}
use Rattle.lt_runner.specs.declared.turning.Turned.TheVariants.{Moved, NoMemory}
use Rattle.lt_runner.proofs.TurnLemmas.{full_tells, moved_tells, no_memory_tells, same_later, turn_later, passed_on, passed_later, rings_same}
use Rattle.lt_runner.proofs.parts.Parts.turn.Goals as goal

pub find-requires : goal.find-requires
find-requires g c = c.requires

pub make_found-requires : goal.make_found-requires
make_found-requires g c = (c.type_bounds.sync-G, (c.find.ensures.kept, c.in-Move.ensures.ends))

pub returns-in-Quiet-clause-kept : goal.returns-in-Quiet-clause-kept
returns-in-Quiet-clause-kept g c = c.find.ensures.kept

pub returns-in-Quiet-clause-same : goal.returns-in-Quiet-clause-same
returns-in-Quiet-clause-same g c = c.find.ensures.seen.same

pub returns-in-Quiet-clause-ends : goal.returns-in-Quiet-clause-ends
returns-in-Quiet-clause-ends g c = (c.find.ensures.seen, c.in-Quiet.ensures.ends)

pub returns-in-Quiet-clause-passed : goal.returns-in-Quiet-clause-passed
returns-in-Quiet-clause-passed g c =
    passed_on c.args.self.now c.find.new.self c.find.new.self c.find.ensures.seen c.find.ensures.flushed (rings_same c.find.new.self)

pub returns-in-Quiet-clause-flushed : goal.returns-in-Quiet-clause-flushed
returns-in-Quiet-clause-flushed g c = λ other. c.find.ensures.flushed

pub returns-in-Quiet-clause-choice : goal.returns-in-Quiet-clause-choice
returns-in-Quiet-clause-choice g c = λ some same. c.find.ensures.shown some c.in-Quiet.is

pub returns-in-Full-clause-kept : goal.returns-in-Full-clause-kept
returns-in-Full-clause-kept g c = c.find.ensures.kept

pub returns-in-Full-clause-same : goal.returns-in-Full-clause-same
returns-in-Full-clause-same g c = c.find.ensures.seen.same

pub returns-in-Full-clause-ends : goal.returns-in-Full-clause-ends
returns-in-Full-clause-ends g c = (c.find.ensures.seen, c.in-Full.ensures.ends)

pub returns-in-Full-clause-passed : goal.returns-in-Full-clause-passed
returns-in-Full-clause-passed g c =
    passed_on c.args.self.now c.find.new.self c.find.new.self c.find.ensures.seen c.find.ensures.flushed (rings_same c.find.new.self)

pub returns-in-Full-clause-flushed : goal.returns-in-Full-clause-flushed
returns-in-Full-clause-flushed g c = λ other. c.find.ensures.flushed

pub returns-in-Full-clause-choice : goal.returns-in-Full-clause-choice
returns-in-Full-clause-choice g c = λ some. full_tells

pub returns-then-make_found-clause-kept : goal.returns-then-make_found-clause-kept
returns-then-make_found-clause-kept g c = c.make_found.ensures.kept

pub returns-then-make_found-clause-same : goal.returns-then-make_found-clause-same
returns-then-make_found-clause-same g c =
    same_later c.args.self.now c.find.new.self c.make_found.new.self c.find.ensures.seen c.make_found.ensures.grew.same

pub returns-then-make_found-clause-ends : goal.returns-then-make_found-clause-ends
returns-then-make_found-clause-ends g c =
    turn_later Moved c.args.self.now c.find.new.self c.make_found.new.self c.find.ensures.seen
    (c.make_found.ensures.moved c.if-make_found.true, c.in-Move.ensures.ends.1.place)

pub returns-then-make_found-clause-passed : goal.returns-then-make_found-clause-passed
returns-then-make_found-clause-passed g c =
    passed_later c.args.self.now c.find.new.self c.make_found.new.self c.find.ensures.seen (c.make_found.ensures.passed c.find.ensures.flushed)

pub returns-then-make_found-clause-flushed : goal.returns-then-make_found-clause-flushed
returns-then-make_found-clause-flushed g c = λ other. absurd (other refl)

pub returns-then-make_found-clause-choice : goal.returns-then-make_found-clause-choice
returns-then-make_found-clause-choice g c = λ some. moved_tells

pub returns-else-make_found-clause-kept : goal.returns-else-make_found-clause-kept
returns-else-make_found-clause-kept g c = c.make_found.ensures.kept

pub returns-else-make_found-clause-same : goal.returns-else-make_found-clause-same
returns-else-make_found-clause-same g c =
    same_later c.args.self.now c.find.new.self c.make_found.new.self c.find.ensures.seen c.make_found.ensures.grew.same

pub returns-else-make_found-clause-ends : goal.returns-else-make_found-clause-ends
returns-else-make_found-clause-ends g c =
    turn_later NoMemory c.args.self.now c.find.new.self c.make_found.new.self c.find.ensures.seen
    (c.make_found.ensures.none c.if-make_found.false)

pub returns-else-make_found-clause-passed : goal.returns-else-make_found-clause-passed
returns-else-make_found-clause-passed g c =
    passed_later c.args.self.now c.find.new.self c.make_found.new.self c.find.ensures.seen (c.make_found.ensures.passed c.find.ensures.flushed)

pub returns-else-make_found-clause-flushed : goal.returns-else-make_found-clause-flushed
returns-else-make_found-clause-flushed g c = λ other. c.make_found.ensures.flushed c.if-make_found.false c.find.ensures.flushed

pub returns-else-make_found-clause-choice : goal.returns-else-make_found-clause-choice
returns-else-make_found-clause-choice g c = λ some. no_memory_tells
