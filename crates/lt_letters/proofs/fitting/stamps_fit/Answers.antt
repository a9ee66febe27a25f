use Rattle.std.proofs.Common.{rules, ◌≤◌, length}
use Rattle.lt_table.specs.Stamps.{no_stamp}
use Rattle.lt_letters.specs.Spelling.{StampFits}
use Rattle.lt_letters.proofs.Passes.{next_passes, all_pass}
use Rattle.lt_letters.proofs.fitting.stamps_fit.Goals as goal

pub loop-k-preserved : goal.loop-k-preserved
loop-k-preserved c = next_passes StampFits c.args.stamps.now c.loop-k.k c.get.result no_stamp c.get.ensures c.stamp_fits.ensures c.loop-k.invariant

pub returns : goal.returns
returns c =
    let few : length c.args.stamps.now ≤ 16 = search rules in
    (few, all_pass StampFits c.args.stamps.now c.loop-k.k (search rules) c.loop-k.invariant)
