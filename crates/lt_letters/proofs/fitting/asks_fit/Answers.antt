use Rattle.std.proofs.Common.{rules}
use Rattle.lt_letters.specs.Spelling.{AskFits}
use Rattle.lt_letters.proofs.Passes.{all_pass}
use Rattle.lt_letters.proofs.fitting.asks_fit.Goals as goal

pub returns : goal.returns
returns c = all_pass AskFits c.args.asks.now c.loop-k.k (search rules) c.loop-k.invariant
