use Rattle.std.proofs.Common.{◌≡◌, ◌<◌, ◌∙◌, ◌++◌, ap, ℕ, length, arith}
use Rattle.lt_modes.specs.declared.parts.Link.{Link}
use Rattle.lt_spec.specs.Holdings.{owner_of}
use Rattle.lt_journal.specs.RunLines.{lines_below, owner_line}
use Rattle.lt_journal.proofs.Fitting.{list_more, lines_below-next}
use Rattle.lt_journal.proofs.closing.owner_lines.Goals as goal

pub loop-set-preserved : goal.loop-set-preserved
loop-set-preserved c = λ events tells.
    let inside : c.loop-set.set < length c.args.script.now.sets = omega arith in
    list_more _ _ _ _ _ _
    (c.in_ok-owner_line.ensures
    ∙ ap (λ (owner : Link). c.loop-set.lines.items ++ owner_line c.loop-set.set owner) (c.owner.ensures c.args.script.now events tells inside))
    (c.loop-set.invariant events tells)
    (lines_below-next c.loop-set.set (λ set. owner_line set (owner_of set events)))

pub returns : goal.returns
returns c = λ events tells.
    let all : c.loop-set.set ≡ length c.args.script.now.sets = omega arith in
    c.loop-set.invariant events tells
    ∙ ap (λ (n : ℕ). c.args.lines.now.items ++ lines_below n (λ set. owner_line set (owner_of set events))) all
