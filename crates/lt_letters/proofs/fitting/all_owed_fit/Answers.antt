use Rattle.std.proofs.Common.{rules, ◌<◌, ◌^◌, length}
use Rattle.lt_letters.specs.Spelling.{OwedFits}
use Rattle.lt_letters.proofs.Passes.{all_pass}
use Rattle.lt_letters.proofs.fitting.all_owed_fit.Goals as goal

pub returns : goal.returns
returns c =
    let few : length c.args.owed.now < 2 ^ 64 = search rules in
    (few, all_pass OwedFits c.args.owed.now c.loop-k.k (search rules) c.loop-k.invariant)
