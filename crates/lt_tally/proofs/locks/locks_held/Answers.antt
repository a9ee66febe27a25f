use Rattle.std.proofs.Common.{◌∙◌, ap, List, [], fold, arith, take_all}
use Rattle.lt_spec.specs.World.{Logged}
use Rattle.lt_spec.specs.Holdings.{Holding, after_line, holdings, lines_of}
use Rattle.lt_tally.proofs.Lines.{fold_lines-more}
use Rattle.lt_tally.proofs.locks.locks_held.Goals as goal

pub loop-k-preserved : goal.loop-k-preserved
loop-k-preserved c =
    let step = after_line c.args.script.now in
    c.in_ok-apply_all.ensures
    ∙ (ap (λ (held : List Holding). fold step held c.events.result.now) c.loop-k.invariant
    ∙ fold_lines-more step [] c.args.run.now.entries c.loop-k.k c.events.result.now c.events.ensures)

pub returns : goal.returns
returns c =
    c.loop-k.invariant
    ∙ ap (λ (entries : List Logged). holdings c.args.script.now (lines_of entries)) (take_all c.loop-k.k c.args.run.now.entries (omega arith))
