-- The look, and then the move.
use Rattle.std.proofs.Common.{refl, subst, sym}
use Rattle.lt_runner.specs.declared.turning.Found.{Found}
use Rattle.lt_runner.specs.declared.turning.Found.TheVariants as found
use Rattle.lt_runner.specs.declared.turning.Turned.TheVariants.{Moved, NoMemory}
use Rattle.lt_runner.specs.Kept.{FindEnds}
use Rattle.lt_mail.proofs.TellingLemmas.{tells_join, tells_later}
use Rattle.lt_runner.proofs.TurnLemmas.{full_tells, moved_tells, no_memory_tells, same_later, turn_later, passed_on, passed_later, rings_same}
use Rattle.lt_runner.proofs.parts.Parts.turn_telling.Goals as goal

pub find_telling-found-requires : goal.find_telling-found-requires
find_telling-found-requires g c = c.requires

pub make_telling-requires : goal.make_telling-requires
make_telling-requires g c =
    let ends = subst (λ (f : Found). FindEnds f c.find_telling-found.new.self) c.in-Move.is c.find_telling-found.ensures.ends in
    (c.type_bounds.sync-G, (c.find_telling-found.ensures.kept, (ends.0, (ends.1, c.find_telling-found.ensures.flushed))))

pub returns-in-Quiet-clause-kept : goal.returns-in-Quiet-clause-kept
returns-in-Quiet-clause-kept g c = c.find_telling-found.ensures.kept

pub returns-in-Quiet-clause-same : goal.returns-in-Quiet-clause-same
returns-in-Quiet-clause-same g c = c.find_telling-found.ensures.seen.same

pub returns-in-Quiet-clause-ends : goal.returns-in-Quiet-clause-ends
returns-in-Quiet-clause-ends g c = (c.find_telling-found.ensures.seen, subst (λ (f : Found). FindEnds f c.find_telling-found.new.self) c.in-Quiet.is c.find_telling-found.ensures.ends)

pub returns-in-Quiet-clause-passed : goal.returns-in-Quiet-clause-passed
returns-in-Quiet-clause-passed g c =
    passed_on c.args.self.now c.find_telling-found.new.self c.find_telling-found.new.self c.find_telling-found.ensures.seen c.find_telling-found.ensures.flushed (rings_same c.find_telling-found.new.self)

pub returns-in-Quiet-clause-flushed : goal.returns-in-Quiet-clause-flushed
returns-in-Quiet-clause-flushed g c = c.find_telling-found.ensures.flushed

pub returns-in-Quiet-clause-choice : goal.returns-in-Quiet-clause-choice
returns-in-Quiet-clause-choice g c = λ some same. c.find_telling-found.ensures.shown some c.in-Quiet.is

pub returns-in-Quiet-clause-sent : goal.returns-in-Quiet-clause-sent
returns-in-Quiet-clause-sent g c = c.find_telling-found.ensures.sent

pub returns-in-Full-clause-kept : goal.returns-in-Full-clause-kept
returns-in-Full-clause-kept g c = c.find_telling-found.ensures.kept

pub returns-in-Full-clause-same : goal.returns-in-Full-clause-same
returns-in-Full-clause-same g c = c.find_telling-found.ensures.seen.same

pub returns-in-Full-clause-ends : goal.returns-in-Full-clause-ends
returns-in-Full-clause-ends g c = (c.find_telling-found.ensures.seen, subst (λ (f : Found). FindEnds f c.find_telling-found.new.self) c.in-Full.is c.find_telling-found.ensures.ends)

pub returns-in-Full-clause-passed : goal.returns-in-Full-clause-passed
returns-in-Full-clause-passed g c =
    passed_on c.args.self.now c.find_telling-found.new.self c.find_telling-found.new.self c.find_telling-found.ensures.seen c.find_telling-found.ensures.flushed (rings_same c.find_telling-found.new.self)

pub returns-in-Full-clause-flushed : goal.returns-in-Full-clause-flushed
returns-in-Full-clause-flushed g c = c.find_telling-found.ensures.flushed

pub returns-in-Full-clause-choice : goal.returns-in-Full-clause-choice
returns-in-Full-clause-choice g c = λ some. full_tells

pub returns-in-Full-clause-sent : goal.returns-in-Full-clause-sent
returns-in-Full-clause-sent g c = c.find_telling-found.ensures.sent

pub returns-in-Some-clause-kept : goal.returns-in-Some-clause-kept
returns-in-Some-clause-kept g c = c.make_telling.ensures.kept

pub returns-in-Some-clause-same : goal.returns-in-Some-clause-same
returns-in-Some-clause-same g c = same_later c.args.self.now c.find_telling-found.new.self c.make_telling.new.self c.find_telling-found.ensures.seen c.make_telling.ensures.same

pub returns-in-Some-clause-ends : goal.returns-in-Some-clause-ends
returns-in-Some-clause-ends g c =
    let ends = subst (λ (f : Found). FindEnds f c.find_telling-found.new.self) c.in-Move.is c.find_telling-found.ensures.ends in
    turn_later Moved c.args.self.now c.find_telling-found.new.self c.make_telling.new.self c.find_telling-found.ensures.seen (c.in-Some.ensures.moved, ends.1.place)

pub returns-in-Some-clause-passed : goal.returns-in-Some-clause-passed
returns-in-Some-clause-passed g c = passed_later c.args.self.now c.find_telling-found.new.self c.make_telling.new.self c.find_telling-found.ensures.seen c.make_telling.ensures.passed

pub returns-in-Some-clause-flushed : goal.returns-in-Some-clause-flushed
returns-in-Some-clause-flushed g c = c.make_telling.ensures.flushed

pub returns-in-Some-clause-choice : goal.returns-in-Some-clause-choice
returns-in-Some-clause-choice g c = λ some. moved_tells

pub returns-in-Some-clause-sent : goal.returns-in-Some-clause-sent
returns-in-Some-clause-sent g c =
    tells_join c.find_telling-found.result.1 c.in-Some.more c.args.self.now.mail c.find_telling-found.new.self.mail c.make_telling.new.self.mail c.find_telling-found.ensures.sent c.in-Some.ensures.sent

pub returns-in-None-clause-kept : goal.returns-in-None-clause-kept
returns-in-None-clause-kept g c = c.make_telling.ensures.kept

pub returns-in-None-clause-same : goal.returns-in-None-clause-same
returns-in-None-clause-same g c = same_later c.args.self.now c.find_telling-found.new.self c.make_telling.new.self c.find_telling-found.ensures.seen c.make_telling.ensures.same

pub returns-in-None-clause-ends : goal.returns-in-None-clause-ends
returns-in-None-clause-ends g c =
    turn_later NoMemory c.args.self.now c.find_telling-found.new.self c.make_telling.new.self c.find_telling-found.ensures.seen c.in-None.ensures.none

pub returns-in-None-clause-passed : goal.returns-in-None-clause-passed
returns-in-None-clause-passed g c = passed_later c.args.self.now c.find_telling-found.new.self c.make_telling.new.self c.find_telling-found.ensures.seen c.make_telling.ensures.passed

pub returns-in-None-clause-flushed : goal.returns-in-None-clause-flushed
returns-in-None-clause-flushed g c = c.make_telling.ensures.flushed

pub returns-in-None-clause-choice : goal.returns-in-None-clause-choice
returns-in-None-clause-choice g c = λ some. no_memory_tells

pub returns-in-None-clause-sent : goal.returns-in-None-clause-sent
returns-in-None-clause-sent g c =
    tells_later c.find_telling-found.result.1 c.args.self.now.mail c.find_telling-found.new.self.mail c.make_telling.new.self.mail c.find_telling-found.ensures.sent c.in-None.ensures.given
