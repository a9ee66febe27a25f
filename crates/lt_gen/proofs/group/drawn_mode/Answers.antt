use Rattle.std.proofs.Common.{ne_eqb}
use Rattle.lt_modes.specs.Modes.{modes_in_order}
use Rattle.lt_modes.specs.declared.mode.Mode.TheVariants.{IntentionRead}
use Rattle.lt_gen.proofs.GroupLemmas.{drawn_as, six_is_nth}
use Rattle.lt_gen.proofs.group.drawn_mode.Goals as goal

pub returns-else-version-eq1-clause-value : goal.returns-else-version-eq1-clause-value
returns-else-version-eq1-clause-value c =
    rw (ne_eqb c.args.version 1 c.if-version-eq1.false)
    (drawn_as modes_in_order c.args.draws.now (c.draw.result, c.draw.new.self) _ c.draw.ensures.value (six_is_nth c.draw.result IntentionRead c.draw.ensures.below))
