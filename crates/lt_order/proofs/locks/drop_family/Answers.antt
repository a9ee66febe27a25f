use Rattle.std.proofs.Common.{rules, not}
use Rattle.std.proofs.lemmas.Fn.{filter_same}
use Rattle.lt_spec.specs.Holdings.{Holding, is_dropped}
use Rattle.lt_order.proofs.locks.drop_family.Goals as goal

pub returns : goal.returns
returns c = filter_same _ (λ (lock : Holding). not (is_dropped c.args.script.now c.args.client c.args.set lock)) _ (λ x b f k. search rules) _ _ c.retain.ensures.filtered
