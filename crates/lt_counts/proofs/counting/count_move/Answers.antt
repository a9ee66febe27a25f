use Rattle.std.proofs.Common.{◌∙◌, sym, ap}
use Rattle.lt_counts.specs.Counting.{and_more}
use Rattle.lt_counts.proofs.Adding.{adds_move, taken_move}
use Rattle.lt_counts.proofs.counting.count_move.Goals as goal

pub returns-clause-counts : goal.returns-clause-counts
returns-clause-counts c =
    adds_move c.args.log.now.entries c.args.place c.made.result c.events.result.now c.args.counts.now c.count_lines.new.counts c.made.ensures c.events.ensures
    c.count_lines.ensures

pub returns-clause-taken : goal.returns-clause-taken
returns-clause-taken c =
    let step = taken_move c.args.log.now.entries c.args.place c.made.result c.events.result.now c.made.ensures c.events.ensures in
    c.and_more.ensures ∙ ap (and_more c.args.taken.now) (c.letters_by.ensures ∙ sym step)
