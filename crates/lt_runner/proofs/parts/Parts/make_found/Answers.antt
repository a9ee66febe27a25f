-- The move is made, or there is no memory for it.
use Rattle.std.proofs.Common.{◌∙◌, sym, refl, true≢false}
use Rattle.lt_runner.proofs.TurnLemmas.{later_moved, later_grew, seen_grew, grew_self, flushed_later, passed_on, rings_same}
use Rattle.lt_mail.proofs.TellingLemmas.{outs_given}
use Rattle.lt_runner.proofs.TellingLemmas.{seen_sends, sends_later, rings_given}
use Rattle.lt_runner.proofs.ReadyLemmas.{no_error}
use Rattle.lt_runner.proofs.parts.Parts.make_found.Goals as goal

pub reserve-requires-clause-kept : goal.reserve-requires-clause-kept
reserve-requires-clause-kept g c = c.requires.kept

pub reserve-requires-clause-chosen : goal.reserve-requires-clause-chosen
reserve-requires-clause-chosen g c = c.requires.chosen

pub reserve-requires-clause-could : goal.reserve-requires-clause-could
reserve-requires-clause-could g c = c.requires.could

pub returns-then-is_err-clause-kept : goal.returns-then-is_err-clause-kept
returns-then-is_err-clause-kept g c = c.reserve.ensures.kept

pub returns-then-is_err-clause-grew : goal.returns-then-is_err-clause-grew
returns-then-is_err-clause-grew g c =
    seen_grew c.args.self.now c.args.self.now c.reserve.new.self (grew_self c.args.self.now) c.reserve.ensures.seen

pub returns-then-is_err-clause-none : goal.returns-then-is_err-clause-none
returns-then-is_err-clause-none g c = λ none. (c.reserve.ensures.seen, c.reserve.ensures.could)

pub returns-then-is_err-clause-passed : goal.returns-then-is_err-clause-passed
returns-then-is_err-clause-passed g c = λ flushed.
    passed_on c.args.self.now c.reserve.new.self c.reserve.new.self c.reserve.ensures.seen
    (flushed_later c.args.self.now c.reserve.new.self c.reserve.ensures.outs flushed) (rings_same c.reserve.new.self)

pub returns-then-is_err-clause-flushed : goal.returns-then-is_err-clause-flushed
returns-then-is_err-clause-flushed g c = λ none flushed. flushed_later c.args.self.now c.reserve.new.self c.reserve.ensures.outs flushed

pub make-requires-clause-kept : goal.make-requires-clause-kept
make-requires-clause-kept g c = c.reserve.ensures.kept

pub make-requires-clause-chosen : goal.make-requires-clause-chosen
make-requires-clause-chosen g c = c.reserve.ensures.chosen

pub make-requires-clause-could : goal.make-requires-clause-could
make-requires-clause-could g c = c.reserve.ensures.could

pub make-requires-clause-memory : goal.make-requires-clause-memory
make-requires-clause-memory g c = no_error c.reserve.result (sym c.is_err.ensures.value ∙ c.if-is_err.false) c.reserve.ensures.memory

pub returns-clause-kept : goal.returns-clause-kept
returns-clause-kept g c = c.make.ensures.kept

pub returns-clause-grew : goal.returns-clause-grew
returns-clause-grew g c =
    later_grew c.args.self.now c.reserve.new.self c.make.new.self c.reserve.ensures.seen c.make.ensures.same c.make.ensures.moved

pub returns-clause-moved : goal.returns-clause-moved
returns-clause-moved g c =
    λ told. later_moved c.args.self.now c.reserve.new.self c.make.new.self c.reserve.ensures.seen c.make.ensures.moved

pub returns-clause-none : goal.returns-clause-none
returns-clause-none g c = λ none. absurd (true≢false none)

pub returns-clause-full : goal.returns-clause-full
returns-clause-full g c = λ room. refl

pub returns-clause-passed : goal.returns-clause-passed
returns-clause-passed g c = λ flushed.
    passed_on c.args.self.now c.reserve.new.self c.make.new.self c.reserve.ensures.seen
    (flushed_later c.args.self.now c.reserve.new.self c.reserve.ensures.outs flushed) c.make.ensures.rings

pub returns-clause-flushed : goal.returns-clause-flushed
returns-clause-flushed g c = λ none. absurd (true≢false none)

pub returns-then-is_err-clause-sent : goal.returns-then-is_err-clause-sent
returns-then-is_err-clause-sent g c = seen_sends c.args.self.now c.reserve.new.self c.reserve.ensures.seen

pub returns-then-is_err-clause-given : goal.returns-then-is_err-clause-given
returns-then-is_err-clause-given g c = outs_given c.args.self.now.mail c.reserve.new.self.mail c.reserve.ensures.outs

pub returns-clause-sent : goal.returns-clause-sent
returns-clause-sent g c = sends_later c.args.self.now c.reserve.new.self c.make.new.self c.reserve.ensures.seen c.make.ensures.sent

pub returns-clause-given : goal.returns-clause-given
returns-clause-given g c =
    rings_given c.args.self.now c.reserve.new.self c.make.new.self c.reserve.ensures.outs c.make.ensures.rings
