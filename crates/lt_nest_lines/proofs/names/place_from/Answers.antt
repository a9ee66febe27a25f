use Rattle.std.proofs.Common.{◌∙◌, sym}
use Rattle.lt_nest_lines.proofs.Tags.{found_here}
use Rattle.lt_nest_lines.proofs.names.place_from.Goals as goal

pub returns-then-is-clause-place : goal.returns-then-is-clause-place
returns-then-is-clause-place c =
    found_here c.args.names.now c.args.word.now c.index-names-k.result c.loop-k.k c.loop-k.invariant c.loop-k-test.true c.index-names-k.is (sym c.is.ensures ∙ c.if-is.true)
