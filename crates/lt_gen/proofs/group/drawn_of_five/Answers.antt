use Rattle.std.proofs.Common.{sym, ◌∙◌}
use Rattle.lt_modes.specs.declared.mode.Mode.TheVariants.{IntentionRead}
use Rattle.lt_gen.specs.Generator.{modes_drawn}
use Rattle.lt_gen.proofs.GroupLemmas.{drawn_as, drawn_is_nth}
use Rattle.lt_gen.proofs.group.drawn_of_five.Goals as goal

pub returns-then-is_of_five-clause-value : goal.returns-then-is_of_five-clause-value
returns-then-is_of_five-clause-value c =
    drawn_as (modes_drawn 1) c.args.draws.now (c.draw.result, c.draw.new.self) _ c.draw.ensures.value
    (rw (sym c.is_of_five.ensures ∙ c.if-is_of_five.true) at (drawn_is_nth c.draw.result IntentionRead c.draw.ensures.below))

pub returns-else-is_of_five-clause-value : goal.returns-else-is_of_five-clause-value
returns-else-is_of_five-clause-value c =
    drawn_as (modes_drawn 1) c.args.draws.now (c.draw.result, c.draw.new.self) _ c.draw.ensures.value
    (rw (sym c.is_of_five.ensures ∙ c.if-is_of_five.false) at (drawn_is_nth c.draw.result IntentionRead c.draw.ensures.below))
