-- The move that was found, and those after it.
use Rattle.std.proofs.Common.{sym, true≢false}
use Rattle.lt_runner.proofs.TurnLemmas.{moved_longer, grew_join}
use Rattle.lt_runner.proofs.parts.Parts.move_and_act.Goals as goal

pub make_found-requires : goal.make_found-requires
make_found-requires g c = (c.type_bounds.sync-G, (c.requires.kept, (c.requires.chosen, c.requires.could)))

pub returns-then-not-make_found-clause-kept : goal.returns-then-not-make_found-clause-kept
returns-then-not-make_found-clause-kept g c = c.make_found.ensures.kept

pub returns-then-not-make_found-clause-grew : goal.returns-then-not-make_found-clause-grew
returns-then-not-make_found-clause-grew g c = c.make_found.ensures.grew

pub returns-then-not-make_found-clause-longer : goal.returns-then-not-make_found-clause-longer
returns-then-not-make_found-clause-longer g c = λ told. absurd (true≢false (sym told))

pub returns-then-not-make_found-clause-could : goal.returns-then-not-make_found-clause-could
returns-then-not-make_found-clause-could g c = λ none. (c.make_found.ensures.none c.if-not-make_found.true).1

pub go_on-requires : goal.go_on-requires
go_on-requires g c = (c.type_bounds.sync-G, c.make_found.ensures.kept)

pub returns-clause-kept : goal.returns-clause-kept
returns-clause-kept g c = c.go_on.ensures.kept

pub returns-clause-grew : goal.returns-clause-grew
returns-clause-grew g c = grew_join c.args.self.now c.make_found.new.self c.go_on.new.self c.make_found.ensures.grew c.go_on.ensures.grew

pub returns-clause-longer : goal.returns-clause-longer
returns-clause-longer g c =
    λ told. moved_longer c.args.self.now c.make_found.new.self c.go_on.new.self (c.make_found.ensures.moved c.if-not-make_found.false) c.go_on.ensures.grew

pub returns-clause-could : goal.returns-clause-could
returns-clause-could g c = λ none. absurd (true≢false none)
