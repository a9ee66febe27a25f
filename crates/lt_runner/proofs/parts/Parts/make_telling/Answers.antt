-- The move, and then a flush.
use Rattle.lt_mail.proofs.TellingLemmas.{tells_before}
use Rattle.lt_runner.proofs.KeptLemmas.{same_join}
use Rattle.lt_runner.proofs.TellingLemmas.{moved_seen, passed_flushed}
use Rattle.lt_runner.proofs.parts.Parts.make_telling.Goals as goal

pub make_found-requires : goal.make_found-requires
make_found-requires g c = (c.type_bounds.sync-G, (c.requires.kept, (c.requires.chosen, c.requires.could)))

pub returns-then-not-make_found-clause-kept : goal.returns-then-not-make_found-clause-kept
returns-then-not-make_found-clause-kept g c = c.make_found.ensures.kept

pub returns-then-not-make_found-clause-same : goal.returns-then-not-make_found-clause-same
returns-then-not-make_found-clause-same g c = c.make_found.ensures.grew.same

pub returns-then-not-make_found-clause-passed : goal.returns-then-not-make_found-clause-passed
returns-then-not-make_found-clause-passed g c = c.make_found.ensures.passed c.requires.flushed

pub returns-then-not-make_found-clause-flushed : goal.returns-then-not-make_found-clause-flushed
returns-then-not-make_found-clause-flushed g c = c.make_found.ensures.flushed c.if-not-make_found.true c.requires.flushed

pub returns-then-not-make_found-clause-none : goal.returns-then-not-make_found-clause-none
returns-then-not-make_found-clause-none g c = c.make_found.ensures.none c.if-not-make_found.true

pub returns-then-not-make_found-clause-given : goal.returns-then-not-make_found-clause-given
returns-then-not-make_found-clause-given g c = c.make_found.ensures.given

pub flush_telling-requires : goal.flush_telling-requires
flush_telling-requires g c = c.make_found.ensures.kept

pub returns-clause-kept : goal.returns-clause-kept
returns-clause-kept g c = c.flush_telling.ensures.kept

pub returns-clause-flushed : goal.returns-clause-flushed
returns-clause-flushed g c = c.flush_telling.ensures.flushed

pub returns-clause-same : goal.returns-clause-same
returns-clause-same g c =
    same_join c.args.self.now c.make_found.new.self c.flush_telling.new.self c.make_found.ensures.grew.same c.flush_telling.ensures.seen.same

pub returns-clause-passed : goal.returns-clause-passed
returns-clause-passed g c =
    passed_flushed c.args.self.now c.make_found.new.self c.flush_telling.new.self c.make_found.ensures.sent c.flush_telling.ensures.seen
    c.flush_telling.ensures.flushed

pub returns-clause-moved : goal.returns-clause-moved
returns-clause-moved g c =
    moved_seen c.args.self.now c.make_found.new.self c.flush_telling.new.self (c.make_found.ensures.moved c.if-not-make_found.false)
    c.flush_telling.ensures.seen

pub returns-clause-sent : goal.returns-clause-sent
returns-clause-sent g c =
    tells_before c.flush_telling.result c.args.self.now.mail c.make_found.new.self.mail c.flush_telling.new.self.mail c.make_found.ensures.given
    c.flush_telling.ensures.sent
